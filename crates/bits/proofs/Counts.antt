-- The number of 1 bits. Assumes nothing.
use Rattle.std.proofs.Common.{◌≡◌, ℕ, zero, suc, ◌+◌, ◌-◌, ◌*◌, ◌/◌, ◌%◌, ◌^◌, ◌<◌, ◌≤◌, List, length, drop, sum, sym, ap, ◌∙◌, ⊎_elim, mod-lt, mod-eq_of_lt, add_comm, add-one, subst, arith, lit<, pow_pos}
use lib.Count.{ones, ones_step, ones_cat, ones-le}
use lib.Pow.{mod-pow-add}
use Rattle.std.proofs.lemmas.List.{drop_all, drop-drop}
use Rattle.std.proofs.lemmas.List.Sums.{sum_by-cons}
use Rattle.std.proofs.ByRecursion.{All-drop}
use Rattle.std.proofs.lemmas.Bool.{cases_lt}
use Rattle.bits.specs.Packing.{value, digits, unpacked, Narrow}
use Rattle.bits.proofs.Packings.{mod_fewer}
use Rattle.bits.proofs.Words.{value-behind}

one_bit : (n : ℕ) → ones (n % 2) ≡ n % 2
unfolding ones
one_bit n =
    let none : n % 2 / 2 ≡ 0 = omega arith in
    let same : n % 2 % 2 ≡ n % 2 = omega arith in
    ones_step (n % 2) ∙ (λ i. same i + ones (none i)) ∙ omega arith

-- the marks of k bits, as the bits of a number
pub sum_marks : (k n : ℕ) → sum (digits 1 k n) ≡ ones (n % 2 ^ k)
unfolding digits ones
sum_marks zero n = let whole : n % 1 ≡ 0 = omega arith in sym (ap ones whole)
sum_marks (suc k) n =
    sum_by-cons (λ x. x) (n % 2) (digits 1 k (n / 2))
    ∙ ap (λ m. n % 2 + m) (sum_marks k (n / 2))
    ∙ add_comm (n % 2) (ones (n / 2 % 2 ^ k))
    ∙ ap (λ m. ones (n / 2 % 2 ^ k) + m) (sym (one_bit n))
    ∙ sym (ones_cat 1 (n / 2 % 2 ^ k) (n % 2) (mod-lt n (pow_pos 1)))
    ∙ ap ones (sym (mod-pow-add n k 1))
    ∙ ap (λ b. ones (n % 2 ^ b)) (add-one k)

-- a word of marks, and the marks behind it
pub word_marks : (bytes : List ℕ) (from count : ℕ) → Narrow 8 bytes → 64 ≤ count → sum (unpacked 1 count (drop from bytes)) ≡ ones (value 8 bytes / 2 ^ (8 * from) % 2 ^ 64) + sum (unpacked 1 (count - 64) (drop (from + 8) bytes))
word_marks bytes from count narrow more =
    let rest = drop from bytes in
    let n = value 8 rest in
    let long : count ≡ (count - 64) + 64 = omega arith in
    sum_marks count n
    ∙ ap (λ k. ones (n % 2 ^ k)) long
    ∙ ap ones (mod-pow-add n (count - 64) 64)
    ∙ ones_cat 64 (n / 2 ^ 64 % 2 ^ (count - 64)) (n % 2 ^ 64) (mod-lt n (pow_pos 64))
    ∙ add_comm (ones (n / 2 ^ 64 % 2 ^ (count - 64))) (ones (n % 2 ^ 64))
    ∙ (λ i. ones (value-behind 8 from bytes narrow i % 2 ^ 64) + ones ((sym (value-behind 8 8 rest (All-drop (λ x. x < 2 ^ 8) from bytes narrow)) ∙ ap (value 8) (drop-drop 8 from bytes)) i % 2 ^ (count - 64)))
    ∙ ap (λ m. ones (value 8 bytes / 2 ^ (8 * from) % 2 ^ 64) + m) (sym (sum_marks (count - 64) (value 8 (drop (from + 8) bytes))))

-- marks within one word
pub few_marks : (bytes : List ℕ) (from count : ℕ) → Narrow 8 bytes → count < 64 → sum (unpacked 1 count (drop from bytes)) ≡ ones (value 8 bytes / 2 ^ (8 * from) % 2 ^ 64 % 2 ^ count)
few_marks bytes from count narrow few =
    let less : count ≤ 64 = omega arith in
    sum_marks count (value 8 (drop from bytes))
    ∙ ap (λ n. ones (n % 2 ^ count)) (value-behind 8 from bytes narrow)
    ∙ ap ones (sym (mod_fewer (value 8 bytes / 2 ^ (8 * from)) less))

-- past the end of the bytes there are none
pub past_marks : (bytes : List ℕ) (from count : ℕ) → length bytes ≤ from → sum (unpacked 1 count (drop from bytes)) ≡ 0
unfolding value
past_marks bytes from count past =
    let none : 0 % 2 ^ count < 2 ^ 0 = subst (λ n. n < 2 ^ 0) (sym (mod-eq_of_lt (pow_pos count))) (lit< tt) in
    ap (λ l. sum (unpacked 1 count l)) (drop_all from bytes past)
    ∙ sum_marks count 0
    ∙ omega (arith, ones-le 0 (0 % 2 ^ count) none)

pub marks-le : (k n : ℕ) → sum (digits 1 k n) ≤ k
marks-le k n = omega (arith, sum_marks k n, ones-le k (n % 2 ^ k) (mod-lt n (pow_pos k)))

-- some of the marks of a word, and those behind it
pub part_marks :
    (bytes : List ℕ) (from count r : ℕ) → Narrow 8 bytes
    → (count < 64 → r ≡ value 8 bytes / 2 ^ (8 * from) % 2 ^ 64 % 2 ^ count) → (64 ≤ count → r ≡ value 8 bytes / 2 ^ (8 * from) % 2 ^ 64)
    → sum (unpacked 1 count (drop from bytes)) ≡ ones r + sum (unpacked 1 (count - 64) (drop (from + 8) bytes))
unfolding digits
part_marks bytes from count r narrow some all = ⊎_elim few more (cases_lt count 64)
  where
    rest : ℕ
    rest = sum (unpacked 1 (count - 64) (drop (from + 8) bytes))

    few : count < 64 → sum (unpacked 1 count (drop from bytes)) ≡ ones r + rest
    few h =
        let past : count - 64 ≡ 0 = omega arith in
        let none : rest ≡ 0 = ap (λ k. sum (unpacked 1 k (drop (from + 8) bytes))) past in
        let here : sum (unpacked 1 count (drop from bytes)) ≡ ones r = few_marks bytes from count narrow h ∙ ap ones (sym (some h)) in
        omega (arith, here, none)

    more : 64 ≤ count → sum (unpacked 1 count (drop from bytes)) ≡ ones r + rest
    more h = word_marks bytes from count narrow h ∙ ap (λ n. ones n + rest) (sym (all h))
