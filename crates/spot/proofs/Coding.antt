-- The codes of a part that is cut in its middle. Assumes nothing.
use Rattle.std.proofs.Common.{◌≡◌, ℕ, zero, suc, ◌+◌, ◌-◌, ◌<◌, ◌≤◌, true, false, eqb, List, [], ◌∷◌, ◌++◌, length, get_or, take, drop, set, sym, refl, ap, ◌∙◌, arith, length-drop, length-set, length-take-le, get_or-take, get_or-set_same}
use Rattle.std.proofs.lemmas.List.{take_rest, drop_more, get_or-drop}
use Rattle.std.proofs.lemmas.Bool.{true≢false}
use Rattle.grid.specs.Cells.{on, origin}
use Rattle.grid.specs.declared.cell.Cell.{Cell}
use Rattle.arrange.specs.Trees.{middle}
use Rattle.arrange.proofs.Sides.{left_written, both-written, right_side, joined}
use Rattle.spot.specs.Codes.{codes_to, cut_codes}

-- a list that is not empty has an element
pub some_from : (n : ℕ) → false ≡ eqb n 0 → 0 < n
some_from zero e = absurd (true≢false (sym e))
some_from (suc n) e = omega arith

-- a part without a cell has no code
pub codes-none : (depth : ℕ) (code : Cell → Cell → ℕ) (parent : Cell) → codes_to depth code parent [] ≡ []
unfolding codes_to
codes-none zero code parent = refl
codes-none (suc depth) code parent = refl

-- the codes of a part with a cut, one level down
pub codes-cut : (depth : ℕ) (code : Cell → Cell → ℕ) (parent : Cell) (part : List Cell) → 0 < length part → codes_to (suc depth) code parent part ≡ codes_to depth code (get_or part (middle (length part)) origin) (take (middle (length part)) part) ++ code parent (get_or part (middle (length part)) origin) ∷ codes_to depth code (get_or part (middle (length part)) origin) (drop (middle (length part) + 1) part)
unfolding codes_to
codes-cut depth code parent part some =
    ap (cut_codes code (codes_to depth code) parent (take (middle (length part)) part)) (drop_more part (middle (length part)) origin (omega arith))

-- a part of one cell has one code
pub leaf_coded : (part : List Cell) (out : List ℕ) (v : ℕ) → 0 < length part → length part < 2 → length out ≡ length part → (depth : ℕ) (code : Cell → Cell → ℕ) (parent : Cell) → length part ≤ depth → v ≡ code parent (get_or part (middle (length part)) origin) → set out (middle (length part)) v ≡ codes_to depth code parent part
unfolding codes_to
leaf_coded [] out v some one long depth code parent deep is = absurd (omega arith)
leaf_coded (x ∷ y ∷ part) out v some one long depth code parent deep is = absurd (omega arith)
leaf_coded (x ∷ []) [] v some one long depth code parent deep is = absurd (omega arith)
leaf_coded (x ∷ []) (n ∷ o ∷ out) v some one long depth code parent deep is = absurd (omega arith)
leaf_coded (x ∷ []) (n ∷ []) v some one long zero code parent deep is = absurd (omega arith)
leaf_coded (x ∷ []) (n ∷ []) v some one long (suc depth) code parent deep is =
    ap (λ w. w ∷ []) is ∙ sym (λ i. codes-none depth code x i ++ code parent x ∷ codes-none depth code x i)

module _ (part : List Cell) (side : ℕ) (some : 0 < length part)
    (placed : (k : ℕ) → k < length part → on side (get_or part k origin) ≡ true) where
  abbrev m : ℕ
  m = middle (length part)

  pub cut_placed : on side (get_or part m origin) ≡ true
  cut_placed = placed m (omega arith)

  pub left_placed : (k : ℕ) → k < length (take m part) → on side (get_or (take m part) k origin) ≡ true
  left_placed k h =
      let long = length-take-le m part (omega arith) in
      ap (on side) (get_or-take m part k origin (omega (arith, long))) ∙ placed k (omega (arith, long))

  pub right_placed : (k : ℕ) → k < length (take (length part - (m + 1)) (drop (m + 1) part)) → on side (get_or (take (length part - (m + 1)) (drop (m + 1) part)) k origin) ≡ true
  right_placed k h =
      let is = take_rest part (m + 1) in
      let inside : k < length (drop (m + 1) part) = omega (arith, ap length is) in
      ap (λ l. on side (get_or l k origin)) is ∙ ap (on side) (get_or-drop (m + 1) part k origin)
      ∙ placed (m + 1 + k) (omega (arith, length-drop (m + 1) part))

-- the code of the cut is written, and then the codes of both sides, l numbers to the left
module _ (part : List Cell) (out left : List ℕ) (v : ℕ) (some : 0 < length part) (long : length out ≡ length part)
    (left_long : length left ≡ length (take (middle (length part)) (set out (middle (length part)) v))) where
  abbrev at : ℕ
  at = middle (length part)

  abbrev marked : List ℕ
  marked = set out at v

  marked_long : length marked ≡ length part
  marked_long = length-set out at v ∙ long

  left_is : length left ≡ at
  left_is = left_long ∙ length-take-le at marked (omega (arith, marked_long))

  pub left_fits : length (take at marked) ≡ length (take at part)
  left_fits = length-take-le at marked (omega (arith, marked_long)) ∙ sym (length-take-le at part (omega arith))

  pub right_fits : length (take (length (left_written marked left at) - (at + 1)) (drop (at + 1) (left_written marked left at))) ≡ length (take (length part - (at + 1)) (drop (at + 1) part))
  right_fits =
      ap length (right_side marked left at left_is)
      ∙ omega (arith, length-drop (at + 1) marked, length-drop (at + 1) part, marked_long)
      ∙ sym (ap length (take_rest part (at + 1)))

  pub both_coded : (depth : ℕ) (code : Cell → Cell → ℕ) (parent : Cell) (right : List ℕ) → length part ≤ suc depth
      → v ≡ code parent (get_or part at origin)
      → left ≡ codes_to depth code (get_or part at origin) (take at part)
      → right ≡ codes_to depth code (get_or part at origin) (take (length part - (at + 1)) (drop (at + 1) part))
      → both-written marked left right at ≡ codes_to (suc depth) code parent part
  both_coded depth code parent right deep is-v is-left is_right =
      joined marked left at left_is right 0 (omega (arith, marked_long))
      ∙ ap (λ n. left ++ n ∷ right) (get_or-set_same out at v 0 (omega (arith, long)) ∙ is-v)
      ∙ ap (λ l. l ++ code parent (get_or part at origin) ∷ right) is-left
      ∙ ap (λ r. codes_to depth code (get_or part at origin) (take at part) ++ code parent (get_or part at origin) ∷ r) (is_right ∙ ap (codes_to depth code (get_or part at origin)) (take_rest part (at + 1)))
      ∙ sym (codes-cut depth code parent part some)
