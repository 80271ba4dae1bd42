-- The ring code by its rings: which cells have which numbers. Assumes nothing.
use Rattle.std.specs.Prelude.{◌≡◌, ℕ, ◌+◌, ◌-◌, ◌*◌, ◌<◌, ◌≤◌, true, false, pos, nat_eq, refl}
use Rattle.std.proofs.Common.{sym, ap, subst, ◌∙◌, inl, inr, mul-le-mul, arith, lit<}
use Rattle.std.proofs.lemmas.Bool.{cases_lt, cases_order, ne_eqb}
use Rattle.grid.specs.Cells.{on}
use Rattle.grid.specs.Sides.{allowed}
use Rattle.grid.specs.declared.cell.Cell.{Cell}
use Rattle.cellcode.specs.Codes.{CodeLaws}
use Rattle.cellcode.specs.Ring.{along, distance, step, nat, first, numbered, ring}
use Rattle.cellcode.specs.Spiral.{far, InRing, across, down}
use Rattle.cellcode.specs.Ons.{on_below, allowed-most}
use Rattle.cellcode.specs.Steps.{apart, stands, stands_step, stands_place, stands_far, place_stands}

-- a ring ends where the next begins, 8d numbers on
pub width : (d : ℕ) → 1 ≤ d → (2 * d + 1) * (2 * d + 1) ≡ first d + 8 * d
width d some = let e : (2 * d - 1) + 1 ≡ 2 * d = omega arith in omega (arith, ap (λ n. n * n) e)

ends_before : (d e : ℕ) → d < e → (2 * d + 1) * (2 * d + 1) ≤ first e
ends_before d e h = let k : 2 * d + 1 ≤ 2 * e - 1 = omega arith in mul-le-mul k k

-- a number is in one ring
same-ring : (n d e : ℕ) → InRing n d → InRing n e → d ≡ e
same-ring n d e h k =
    elim (cases_order d e) [
      | inl same ↦ same
      | inr apart ↦ elim apart [
        | inl less ↦ omega (arith, ends_before d e less)
        | inr more ↦ omega (arith, ends_before e d more)
      ]
    ]

in_ring : (d s : ℕ) → 1 ≤ d → s < 8 * d → InRing (first d + s) d
in_ring d s some h = record { from = omega arith; to = omega (arith, width d some) }

distance-far : (p c : Cell) → distance (along p.x c.x) (along p.y c.y) ≡ far p c
distance-far p c = simp apart

-- the number of a cell by its ring and its step
pub ring-step : (side d s : ℕ) (p c : Cell) → 1 ≤ d → far p c ≡ d → step (pos d) (along p.x c.x) (along p.y c.y) ≡ pos s → ring side p c ≡ first d + s
unfolding ring numbered
ring-step side d s p c some at steps =
    let e : distance (along p.x c.x) (along p.y c.y) ≡ d = distance-far p c ∙ at in
    let t : nat_eq d 0 ≡ false = ne_eqb d 0 (λ z. omega arith) in
    rw (e, t) (ap (λ z. first d + nat z) steps)

pub ring-none : (side : ℕ) (p c : Cell) → far p c ≡ 0 → ring side p c ≡ 0
unfolding ring numbered
ring-none side p c at = rw (distance-far p c ∙ at)

-- the cell at the place of the step that the number n of ring d has
pub record Found (p c : Cell) (n d : ℕ) : Type 0 where
  pub column : c.x + d ≡ p.x + across d (n - first d)
  pub row : c.y + d ≡ p.y + down d (n - first d)

-- ring 0 is the parent
centre : (across 0 0 ≡ 0) × (down 0 0 ≡ 0)
unfolding across down
centre = (refl, refl)

-- the number of a cell leads to it
leads : (side : ℕ) (p c : Cell) → InRing (ring side p c) (far p c) × Found p c (ring side p c) (far p c)
leads side p c = elim (cases_lt 0 (far p c)) [ inl h ↦ around h | inr h ↦ at_parent (omega arith) ]
  where
    around : 0 < far p c → InRing (ring side p c) (far p c) × Found p c (ring side p c) (far p c)
    around some =
        let found = stands (far p c) p.x p.y c.x c.y some refl in
        let s = found.0 in
        let placed = stands_place (far p c) _ _ _ _ s some found.1 in
        let is : ring side p c ≡ first (far p c) + s = ring-step side (far p c) s p c some refl (stands_step (far p c) _ _ _ _ s some found.1) in
        let left : ring side p c - first (far p c) ≡ s = omega (arith, is) in
        (rw is (in_ring (far p c) s some placed.0), record { column = rw left placed.1; row = rw left placed.2 })

    at_parent : far p c ≡ 0 → InRing (ring side p c) (far p c) × Found p c (ring side p c) (far p c)
    at_parent none =
        let is = ring-none side p c none in
        rw (is, none) (record { from = omega arith; to = lit< tt }, record { column = omega (arith, centre.0); row = omega (arith, centre.1) })

pub reads : (side : ℕ) (p c : Cell) (n d : ℕ) → ring side p c ≡ n → InRing n d → Found p c n d
reads side p c n d is at =
    let l = leads side p c in
    let same : far p c ≡ d = same-ring n (far p c) d (rw is at l.0) at in
    rw (is, same) at l.1

-- the cell that a number leads to has that number
module _ (side : ℕ) (p c : Cell) (n d : ℕ) (at : InRing n d) (found : Found p c n d) where
  around_found : 0 < d → ring side p c ≡ n
  around_found some =
      let s = n - first d in
      let within : s < 8 * d = omega (arith, at.from, at.to, width d some) in
      let side_of = place_stands d p.x p.y c.x c.y s some within found.column found.row in
      ring-step side d s p c some (stands_far d _ _ _ _ s some side_of) (stands_step d _ _ _ _ s some side_of) ∙ omega (arith, at.from)

  parent_found : d ≡ 0 → ring side p c ≡ n
  parent_found none =
      let zero : n ≡ 0 = omega (arith, (subst (InRing n) none at).to) in
      let here : Found p c 0 0 = rw (zero, none) at found in
      ring-none side p c (omega (arith, here.column, here.row, centre.0, centre.1)) ∙ sym zero

  pub finds : ring side p c ≡ n
  finds = elim (cases_lt 0 d) [ inl h ↦ around_found h | inr h ↦ parent_found (omega arith) ]

pub ring-below : (side : ℕ) (p c : Cell) → allowed side ≡ true → on side p ≡ true → on side c ≡ true → ring side p c < 4398046511104
ring-below side p c h on-p on-c =
    let most : side ≤ 1048576 = allowed-most side h in
    let near : 2 * far p c + 1 ≤ 2097151 = omega (arith, on_below side p on-p, on_below side c on-c) in
    omega (arith, (leads side p c).0.to, mul-le-mul near near)

pub ring_distinct : (side : ℕ) (p c d : Cell) → ring side p c ≡ ring side p d → c ≡ d
ring_distinct side p c d same =
    let one = leads side p c in
    let other = reads side p d (ring side p c) (far p c) (sym same) one.0 in
    let column : c.x ≡ d.x = omega (arith, one.1.column, other.column) in
    let row : c.y ≡ d.y = omega (arith, one.1.row, other.row) in
    λ i. record { x = column i; y = row i }

pub ring_laws : CodeLaws ring
ring_laws = record { below = ring-below; distinct = λ side p c d h on-p on-c on-d. ring_distinct side p c d }
