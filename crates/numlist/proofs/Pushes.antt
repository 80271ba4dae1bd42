-- What is pushed and counted of a part that may be absent. Assumes nothing.
use Rattle.std.proofs.Common.{◌≡◌, ℕ, ◌%◌, ◌^◌, List, [], ◌∷◌, ◌++◌, map, length, Some, None, Option, refl, sym, ap, ◌∙◌}
use Rattle.std.specs.Prelude.{MatchOption, IsSomeAnd}
use mir.Val.{bool_byte}
use Rattle.std.specs.Option.{is_some}
use Rattle.std.proofs.lemmas.List.{map-append}
use Rattle.bits.specs.Writing.{pushed}
use Rattle.numlist.specs.Parts.{listed}

-- what is pushed of what was made of a part
pub made_part :
    (w : ℕ) (f : ℕ → ℕ) (xs : List ℕ) (o r : Option ℕ) → pushed w r ≡ map f (listed o)
    → map f xs ++ pushed w r ≡ map f (xs ++ listed o)
made_part w f xs o r is = ap (λ l. map f xs ++ l) is ∙ sym (map-append f xs (listed o))

-- what is made of a part is pushed as its own, where there is a part
pub pushed_made :
    (w : ℕ) (f : ℕ → ℕ) (Made : ℕ → ℕ → Type 0) (o r : Option ℕ) → ((x y : ℕ) → Made x y → y % 2 ^ w ≡ f x)
    → MatchOption o (r ≡ None) (λ x. IsSomeAnd r (Made x)) → pushed w r ≡ map f (listed o)
pushed_made w f Made (Some x) (Some y) means made = ap (λ n. n ∷ []) (means x y made)
pushed_made w f Made (Some x) None means made = absurd made
pushed_made w f Made None r means made = ap (pushed w) made

pub counted_part : (o : Option ℕ) → bool_byte (is_some o) ≡ length (listed o)
counted_part (Some x) = refl
counted_part None = refl
