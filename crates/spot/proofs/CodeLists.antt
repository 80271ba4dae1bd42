-- The codes of a tree are as many as its cells, and each has at most 42 bits. Assumes nothing.
use Rattle.std.proofs.Common.{◌≡◌, ℕ, zero, suc, ◌+◌, ◌^◌, ◌<◌, ◌≤◌, true, List, [], ◌∷◌, ◌++◌, length, get_or, take, drop, sym, refl, ap, ◌∙◌, subst, ⊎_elim, lt_of_lt_of_le, arith, length-append, length-drop, length-take-le, get_or-take, pow_mono}
use Rattle.std.proofs.ByRecursion.{All-append}
use Rattle.std.proofs.lemmas.List.{get_or-drop, nil_from_length}
use Rattle.std.proofs.lemmas.Bool.{cases_lt, and_from, lt-ltb}
use Rattle.grid.specs.Cells.{on, origin}
use Rattle.grid.specs.Sides.{allowed}
use Rattle.grid.specs.declared.cell.Cell.{Cell}
use Rattle.arrange.specs.Trees.{middle}
use Rattle.bits.specs.Packing.{Narrow}
use Rattle.cellcode.specs.Codes.{CodeLaws}
use Rattle.numlist.specs.Calls.{narrow}
use Rattle.spot.specs.Codes.{codes_to, root}
use Rattle.spot.proofs.Coding.{codes-none, codes-cut}

-- every cell of a list lies on the grid
abbrev pub AllOn : ℕ → List Cell → Type 0
AllOn side cells = (k : ℕ) → k < length cells → on side (get_or cells k origin) ≡ true

take_on : (side n : ℕ) (cells : List Cell) → n ≤ length cells → AllOn side cells → AllOn side (take n cells)
take_on side n cells within placed k h =
    let long = length-take-le n cells within in
    ap (on side) (get_or-take n cells k origin (omega (arith, long))) ∙ placed k (omega (arith, long))

drop-on : (side n : ℕ) (cells : List Cell) → AllOn side cells → AllOn side (drop n cells)
drop-on side n cells placed k h =
    ap (on side) (get_or-drop n cells k origin) ∙ placed (n + k) (omega (arith, length-drop n cells))

module _ (code : ℕ → Cell → Cell → ℕ) (laws : CodeLaws code) (side : ℕ) (fine : allowed side ≡ true) where
  -- as many codes as cells, each below 2^42
  abbrev Fits : ℕ → List ℕ → Type 0
  Fits n ns = (length ns ≡ n) × Narrow 42 ns

  fits_none : (depth : ℕ) (parent : Cell) (part : List Cell) → length part ≤ 0 → Fits (length part) (codes_to depth (code side) parent part)
  fits_none depth parent part empty =
      let nil = nil_from_length part (omega arith) in
      let is = ap (codes_to depth (code side) parent) nil ∙ codes-none depth (code side) parent in
      (ap length is ∙ omega arith, subst (Narrow 42) (sym is) tt)

  -- the codes of both sides fit, and so do those of the whole
  fits_cut : (depth : ℕ) (parent : Cell) (part : List Cell) (m : ℕ) → m ≡ middle (length part) → 0 < length part → on side parent ≡ true → AllOn side part
      → Fits (length (take m part)) (codes_to depth (code side) (get_or part m origin) (take m part))
      → Fits (length (drop (m + 1) part)) (codes_to depth (code side) (get_or part m origin) (drop (m + 1) part))
      → Fits (length part) (codes_to (suc depth) (code side) parent part)
  fits_cut depth parent part m centre some on-parent placed left right =
      let cut = get_or part m origin in
      let is : codes_to (suc depth) (code side) parent part ≡ codes_to depth (code side) cut (take m part) ++ code side parent cut ∷ codes_to depth (code side) cut (drop (m + 1) part) =
      codes-cut depth (code side) parent part some
      ∙ ap (λ k. codes_to depth (code side) (get_or part k origin) (take k part) ++ code side parent (get_or part k origin) ∷ codes_to depth (code side) (get_or part k origin) (drop (k + 1) part)) (sym centre) in
      let sum = length-append (codes_to depth (code side) cut (take m part)) (code side parent cut ∷ codes_to depth (code side) cut (drop (m + 1) part)) in (
        ap length is ∙ sum ∙ omega (arith, left.0, right.0, length-take-le m part (omega arith), length-drop (m + 1) part),
        subst (Narrow 42) (sym is)
            (All-append _ (codes_to depth (code side) cut (take m part)) _ left.1 (laws.below side parent cut fine on-parent (placed m (omega arith)), right.1)),
      )

  pub fits : (depth : ℕ) (parent : Cell) (part : List Cell) → length part ≤ depth → on side parent ≡ true → AllOn side part → Fits (length part) (codes_to depth (code side) parent part)
  fits zero parent part deep on-parent placed = fits_none zero parent part deep
  fits (suc depth) parent part deep on-parent placed =
      ⊎_elim
      (λ some.
      let m = middle (length part) in
      let on-cut = placed m (omega arith) in
      fits_cut depth parent part m refl some on-parent placed
      (fits depth (get_or part m origin) (take m part) (omega (arith, length-take-le m part (omega arith))) on-cut (take_on side m part (omega arith) placed))
      (fits depth (get_or part m origin) (drop (m + 1) part) (omega (arith, length-drop (m + 1) part)) on-cut (drop-on side (m + 1) part placed)))
      (λ empty. fits_none (suc depth) parent part empty)
      (cases_lt 0 (length part))

-- the root of a tree on the grid lies on the grid, and so does the origin
pub root-on : (side : ℕ) (tree : List Cell) → 1 ≤ side → AllOn side tree → on side (root tree) ≡ true
root-on side tree some placed =
    ⊎_elim
    (λ more. placed (middle (length tree)) (omega arith))
    (λ empty. ap (λ l. on side (root l)) (nil_from_length tree (omega arith)) ∙ and_from _ _ (lt-ltb 0 side some) (lt-ltb 0 side some))
    (cases_lt 0 (length tree))

-- numbers of at most v bits have at most w bits, where w is not less
pub narrower : (v w : ℕ) (xs : List ℕ) → v ≤ w → Narrow v xs → narrow w xs ≡ true
narrower v w [] le h = refl
narrower v w (x ∷ xs) le h = and_from _ _ (lt-ltb x (2 ^ w) (lt_of_lt_of_le h.0 (pow_mono le))) (narrower v w xs le h.1)
