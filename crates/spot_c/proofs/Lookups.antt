-- Places that are replaced by the numbers there, one after another. Assumes nothing.
use Rattle.std.proofs.Common.{◌≡◌, ℕ, ◌+◌, ◌%◌, ◌^◌, ◌<◌, ◌≤◌, true, ltb, List, [], ◌∷◌, ◌++◌, length, get_or, take, drop, set, refl, ◌∙◌, append_assoc, lt_of_lt_of_le, mod-eq_of_lt, arith, pow_mono}
use Rattle.std.proofs.ByRecursion.{All-get_or}
use Rattle.std.proofs.lemmas.List.{drop_more, drop-set-lt, take_more_set}
use Rattle.std.proofs.lemmas.Bool.{lt-ltb}
use Rattle.bits.specs.Packing.{Narrow}
use Rattle.spot_c.specs.Lists.{all_inside, looked_up}

-- the first k places are replaced: what the others come to stands behind them
pub record Looked (xs : List ℕ) (m : ℕ) (old new : List ℕ) (k : ℕ) : Type 0 where
  pub done : looked_up xs m old ≡ take k new ++ looked_up xs m (drop k new)
  pub inside : all_inside m old ≡ all_inside m (drop k new)

-- the next one is replaced
pub looked_more :
    (xs : List ℕ) (m : ℕ) (old new : List ℕ) (k v : ℕ)
    → Looked xs m old new k → k < length new → get_or new k 0 < m → v ≡ get_or xs (get_or new k 0) 0
    → Looked xs m old (set new k v) (k + 1)
looked_more xs m old new k v before here within is =
    let next : drop k new ≡ get_or new k 0 ∷ drop (k + 1) new = drop_more new k 0 here in
    let same : drop (k + 1) (set new k v) ≡ drop (k + 1) new = drop-set-lt (k + 1) new k v (omega arith) in
    let front : take (k + 1) (set new k v) ≡ take k new ++ v ∷ [] = take_more_set new k v here in
    let fine : ltb (get_or new k 0) m ≡ true = lt-ltb (get_or new k 0) m within in
    record {
      done = before.done ∙ rw (next, fine, same, front) (simp append_assoc (rw is refl));
      inside = before.inside ∙ rw (next, fine, same) refl;
    }

-- a number of a list that reaches 64 bits at most has no more
pub whole :
    (reach : ℕ) (xs : List ℕ) (i : ℕ) → reach ≤ 64 → Narrow reach xs → i < length xs
    → get_or xs i 0 % 2 ^ 64 ≡ get_or xs i 0
whole reach xs i wide narrow here =
    mod-eq_of_lt (lt_of_lt_of_le (All-get_or (λ y. y < 2 ^ reach) xs i 0 here narrow) (pow_mono wide))
