-- The computed tree arranges a list, and is the one list that does. Assumes nothing.
use Rattle.std.proofs.Common.{◌≡◌, ℕ, zero, suc, ◌+◌, ◌<◌, ◌≤◌, Bool, true, false, List, [], ◌∷◌, ◌++◌, length, get_or, take, drop, count_by, sym, refl, ap, ◌∙◌, subst, ⊎_elim, arith, length-drop}
use Rattle.std.specs.List.{AllByRecursion}
use Rattle.std.proofs.ByRecursion.{All-weaker, All-get_or}
use Rattle.std.proofs.lemmas.List.{length-take-le, drop_more}
use Rattle.std.proofs.lemmas.Bool.{cases_Bool, both_ways, cond_both}
use Rattle.select.specs.Orders.{TotalOrders, other}
use Rattle.select.specs.Selections.{SameElements, Selected}
use Rattle.select.specs.declared.element.Axis.{Axis}
use Rattle.select.specs.CellOrders.{before as cell_before}
use Rattle.select.specs.Keys.{cells_total}
use Rattle.grid.specs.Cells.{count}
use Rattle.grid.specs.declared.cell.Cell.{Cell}
use Rattle.arrange.specs.Trees.{Arranges, EquallyOften, middle}
use Rattle.arrange.specs.Computed.{insert, ordered, around, tree_to, tree}
use Rattle.arrange.proofs.Counted.{tick, count-cons, same_length}
use Rattle.arrange.proofs.Totals.{same_from_often}
use Rattle.arrange.proofs.Uniques.{same_arranged}
use Rattle.arrange.proofs.Sides.{short_arranges, cut_arranges}
use Rattle.arrange.proofs.Spots.{often_cells}

-- each element has none smaller behind it
abbrev InOrder : {E : Type 0} → (E → E → Bool) → List E → Type 0
InOrder before [] = Unit
InOrder before (e ∷ es) = AllByRecursion (λ f. before f e ≡ false) es × InOrder before es

module _ {E : Type 0} (before : E → E → Bool) where
  count-insert : (test : E → Bool) (e : E) (es : List E) → count_by test (insert before e es) ≡ tick (test e) + count_by test es
  unfolding insert
  count-insert test e [] = count-cons test e []
  count-insert test e (f ∷ fs) =
      cond_both (before e f) (e ∷ f ∷ fs) (f ∷ insert before e fs) (λ es. count_by test es ≡ tick (test e) + count_by test (f ∷ fs))
      (λ _. count-cons test e (f ∷ fs))
      (λ _. omega (arith, count-insert test e fs, count-cons test f (insert before e fs), count-cons test f fs))

  ordered_same : (es : List E) → SameElements es (ordered before es)
  unfolding ordered
  ordered_same [] test = refl
  ordered_same (e ∷ es) test =
      omega (arith, ordered_same es test, count-cons test e es, count-insert test e (ordered before es))

  all_insert : (P : E → Type 0) (e : E) (es : List E) → P e → AllByRecursion P es → AllByRecursion P (insert before e es)
  unfolding insert
  all_insert P e [] is all = (is, tt)
  all_insert P e (f ∷ fs) is all =
      cond_both (before e f) (e ∷ f ∷ fs) (f ∷ insert before e fs) (AllByRecursion P) (λ _. (is, all)) (λ _. (all.0, all_insert P e fs is all.1))

  -- of two places the later one has no smaller element
  in_order_places : (es : List E) → InOrder before es → (j k : ℕ) (d : E) → j < k → k < length es → before (get_or es k d) (get_or es j d) ≡ false
  in_order_places [] order j k d less inside = absurd (omega arith)
  in_order_places (e ∷ es) order j zero d less inside = absurd (omega arith)
  in_order_places (e ∷ es) order zero (suc k) d less inside = All-get_or (λ f. before f e ≡ false) es k d (omega arith) order.0
  in_order_places (e ∷ es) order (suc j) (suc k) d less inside = in_order_places es order.1 j k d (omega arith) (omega arith)

module _ {E : Type 0} (before : Axis → E → E → Bool) (total : TotalOrders before) (axis : Axis) where
  -- what is not before the upper of two elements is not before the lower one
  not_before : (low high e : E) → before axis low high ≡ true → before axis e high ≡ false → before axis e low ≡ false
  not_before low high e between after =
      ⊎_elim (λ is. absurd (both_ways (before axis e high) after (total.transitive axis e low high is between))) (λ is. is) (cases_Bool (before axis e low))

  insert_in_order : (e : E) (es : List E) → InOrder (before axis) es → InOrder (before axis) (insert (before axis) e es)
  unfolding insert
  insert_in_order e [] order = (tt, tt)
  insert_in_order e (f ∷ fs) order =
      cond_both (before axis e f) (e ∷ f ∷ fs) (f ∷ insert (before axis) e fs) (InOrder (before axis))
      (λ is. ((not_before e f f is (total.irreflexive axis f), All-weaker _ _ (λ g. not_before e f g is) fs order.0), order))
      (λ is. (all_insert (before axis) (λ g. before axis g f ≡ false) e fs is order.0, insert_in_order e fs order.1))

  ordered_in_order : (es : List E) → InOrder (before axis) (ordered (before axis) es)
  unfolding ordered
  ordered_in_order [] = tt
  ordered_in_order (e ∷ es) = insert_in_order e (ordered (before axis) es) (ordered_in_order es)

  -- order settles every place
  ordered_selects : (xs : List E) (m : ℕ) → m < length xs → Selected (before axis) xs m (ordered (before axis) xs)
  ordered_selects xs m inside = record {
    kept = same;
    long = long;
    settled = λ _. record {
      left = λ k d less. places k m d less (omega (arith, long));
      right = λ k d more within. places m k d more within;
    };
    left = λ past. absurd (omega arith);
  }
    where
      same : SameElements xs (ordered (before axis) xs)
      same = ordered_same (before axis) xs

      long : length (ordered (before axis) xs) ≡ length xs
      long = sym (same_length xs (ordered (before axis) xs) same)

      places : (j k : ℕ) (d : E) → j < k → k < length (ordered (before axis) xs) → before axis (get_or (ordered (before axis) xs) k d) (get_or (ordered (before axis) xs) j d) ≡ false
      places = in_order_places (before axis) (ordered (before axis) xs) (ordered_in_order xs)

module _ {E : Type 0} (before : Axis → E → E → Bool) (total : TotalOrders before) where
  -- a list that is ordered, with both sides arranged
  around_arranges :
      (axis : Axis) (xs : List E) (side : List E → List E) (d : E) → 0 < length xs
      → ((es : List E) → length es < length xs → Arranges before (other axis) es (side es))
      → Arranges before axis xs (around (middle (length xs)) side (ordered (before axis) xs))
  around_arranges axis xs side d some sides =
      subst (λ zs. Arranges before axis xs (side (take m s) ++ zs)) (ap (λ es. take 1 es ++ side (drop (m + 1) s)) (sym (drop_more s m d in_s)))
      (cut_arranges before axis xs s (side (take m s)) (side (drop (m + 1) s)) m d refl inside selects
      (sides (take m s) (omega (arith, inside, length-take-le m s (omega (arith, in_s)))))
      (sides (drop (m + 1) s) (omega (arith, selects.long, length-drop (m + 1) s))))
    where
      s : List E
      s = ordered (before axis) xs

      m : ℕ
      m = middle (length xs)

      inside : m < length xs
      inside = omega arith

      selects : Selected (before axis) xs m s
      selects = ordered_selects before total axis xs m inside

      in_s : m < length s
      in_s = omega (arith, selects.long)

  tree_to_arranges : (k : ℕ) (axis : Axis) (xs : List E) → length xs ≤ k → Arranges before axis xs (tree_to before k axis xs)
  unfolding tree_to
  tree_to_arranges k axis [] enough = short_arranges before axis [] (omega arith)
  tree_to_arranges zero axis (x ∷ xs) enough = absurd (omega arith)
  tree_to_arranges (suc k) axis (x ∷ xs) enough =
      around_arranges axis (x ∷ xs) (tree_to before k (other axis)) x (omega arith) (λ es shorter. tree_to_arranges k (other axis) es (omega arith))

  pub tree_arranges : (axis : Axis) (xs : List E) → Arranges before axis xs (tree before axis xs)
  unfolding tree
  tree_arranges axis xs = tree_to_arranges (length xs) axis xs (omega arith)

  -- what arranges a list is its tree
  pub arranges_tree : (axis : Axis) (xs ys : List E) → Arranges before axis xs ys → ys ≡ tree before axis xs
  arranges_tree axis xs ys done =
      let computed = tree_arranges axis xs in
      same_arranged before total done.arranged (tree before axis xs) computed.arranged (λ test. sym (done.kept test) ∙ computed.kept test)

  -- lists that have every element equally often have the same tree
  pub tree-same : (axis : Axis) (xs ys : List E) → EquallyOften before xs ys → tree before axis xs ≡ tree before axis ys
  tree-same axis xs ys often =
      let computed = tree_arranges axis xs in
      arranges_tree axis ys (tree before axis xs) (record {
        kept = λ test. sym (same test) ∙ computed.kept test;
        long = computed.long ∙ same_length xs ys same;
        arranged = computed.arranged;
      })
    where
      same : SameElements xs ys
      same = same_from_often before total xs ys often

-- lists that have every cell equally often have the same tree
pub tree_of_cells : (axis : Axis) (xs ys : List Cell) → ((c : Cell) → count c xs ≡ count c ys) → tree cell_before axis xs ≡ tree cell_before axis ys
tree_of_cells axis xs ys often = tree-same cell_before cells_total axis xs ys (often_cells xs ys often)
