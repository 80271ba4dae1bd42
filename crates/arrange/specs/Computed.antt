-- The arrangement as a list that is computed.
use Rattle.std.specs.Prelude.{ℕ, zero, suc, ◌+◌, Bool, cond, List, [], ◌∷◌, ◌++◌, length, take, drop}
use Rattle.select.specs.Orders.{other}
use Rattle.select.specs.declared.element.Axis.{Axis}
use Rattle.arrange.specs.Trees.{middle}

-- an element put into a list, in front of the first one that it is before
unfoldable pub insert : {E : Type 0} → (E → E → Bool) → E → List E → List E
insert before e [] = e ∷ []
insert before e (f ∷ fs) = cond (before e f) (e ∷ f ∷ fs) (f ∷ insert before e fs)

-- the elements in order, the smallest first
unfoldable pub ordered : {E : Type 0} → (E → E → Bool) → List E → List E
unfolding insert
ordered before [] = []
ordered before (e ∷ es) = insert before e (ordered before es)

-- what side makes of the elements in front of place m, the element there, and what side makes of those behind it
abbrev pub around : {E : Type 0} → ℕ → (List E → List E) → List E → List E
around m side es = side (take m es) ++ (take 1 (drop m es) ++ side (drop (m + 1) es))

-- the elements in the order of the axis: the middle one stays in the middle, and both sides are arranged by the other axis.
-- The first number says how often sides may have sides; as many as there are elements is enough
unfoldable pub tree_to : {E : Type 0} → (Axis → E → E → Bool) → ℕ → Axis → List E → List E
unfolding ordered
tree_to before k axis [] = []
tree_to before zero axis (e ∷ es) = []
tree_to before (suc k) axis (e ∷ es) =
    around (middle (length (e ∷ es))) (tree_to before k (other axis)) (ordered (before axis) (e ∷ es))

-- the tree of a list of elements that is cut by this axis first
unfoldable pub tree : {E : Type 0} → (Axis → E → E → Bool) → Axis → List E → List E
unfolding tree_to
tree before axis xs = tree_to before (length xs) axis xs
