-- Marks and entries in bytes, by their places. Assumes nothing.
use Rattle.std.proofs.Common.{◌≡◌, ℕ, zero, suc, ◌+◌, ◌-◌, ◌*◌, ◌/◌, ◌%◌, ◌^◌, ◌<◌, ◌≤◌, min, List, ◌∷◌, ◌++◌, length, get_or, take, drop, sum, sym, refl, ap, ◌∙◌, ⊎_elim, suc-add, mul-zero, zero-add, mul-suc, arith, shr-shr}
use Rattle.std.proofs.ByRecursion.{All-from_get_or}
use Rattle.std.proofs.lemmas.List.FromFn.{get_or-map-range_with_len}
use Rattle.std.proofs.lemmas.List.{take_all}
use Rattle.std.proofs.lemmas.List.Sums.{sum_by-append}
use Rattle.std.proofs.lemmas.Bool.{cases_lt}
use Rattle.bits.specs.Packing.{value, digits, unpacked, Narrow}
use Rattle.bits.proofs.Digits.{get_or-digits}
use Rattle.bits.proofs.Words.{value-behind}
use Rattle.numlist.specs.Parts.{entries, directory}

-- bytes, one by one
pub all_bytes : (bytes : List ℕ) → ((i : ℕ) → get_or bytes i 0 < 256) → Narrow 8 bytes
all_bytes bytes small = All-from_get_or (λ x. x < 2 ^ 8) bytes 0 (λ i h. small i)

-- number i of w bits behind some bytes
pub number_behind :
    (w m : ℕ) (bytes : List ℕ) (from i at : ℕ) → Narrow 8 bytes → i < m → at ≡ 8 * from + w * i
    → value 8 bytes / 2 ^ at % 2 ^ w ≡ get_or (unpacked w m (drop from bytes)) i 0
number_behind w m bytes from i at narrow inside place =
    ap (λ b. value 8 bytes / 2 ^ b % 2 ^ w) place
    ∙ ap (λ n. n % 2 ^ w) (sym (shr-shr (value 8 bytes) (8 * from) (w * i)))
    ∙ ap (λ n. n / 2 ^ (w * i) % 2 ^ w) (sym (value-behind 8 from bytes narrow))
    ∙ sym (get_or-digits w m (value 8 (drop from bytes)) i inside)

take-digits : (w k m n : ℕ) → k ≤ m → take k (digits w m n) ≡ digits w k n
unfolding digits
take-digits w zero m n h = refl
take-digits w (suc k) zero n h = absurd (omega arith)
take-digits w (suc k) (suc m) n h = ap (λ l. n % 2 ^ w ∷ l) (take-digits w k m (n / 2 ^ w) (omega arith))

digits-add : (w a b n : ℕ) → digits w (a + b) n ≡ digits w a n ++ digits w b (n / 2 ^ (w * a))
unfolding digits
digits-add w zero b n =
    let whole : n ≡ n / 1 = omega arith in
    ap (λ k. digits w k n) (zero-add b) ∙ ap (digits w b) (whole ∙ sym (ap (λ k. n / 2 ^ k) (mul-zero w)))
digits-add w (suc a) b n =
    let more : w + w * a ≡ w * suc a = omega (arith, mul-suc w a) in
    ap (λ k. digits w k n) (suc-add a b)
    ∙ ap (λ l. n % 2 ^ w ∷ l) (digits-add w a b (n / 2 ^ w))
    ∙ ap (λ m. n % 2 ^ w ∷ digits w a (n / 2 ^ w) ++ digits w b m) (shr-shr n w (w * a) ∙ ap (λ k. n / 2 ^ k) more)

-- the 1 marks up to a place within a group, and those before the group
pub group_sum :
    (m : ℕ) (bytes : List ℕ) (g n : ℕ) → Narrow 8 bytes → 256 * g + n ≤ m
    → sum (take (256 * g + n) (unpacked 1 m bytes)) ≡ sum (take (256 * g) (unpacked 1 m bytes)) + sum (unpacked 1 n (drop (32 * g) bytes))
group_sum m bytes g n narrow within =
    let v = value 8 bytes in
    let bits : 1 * (256 * g) ≡ 8 * (32 * g) = omega arith in
    ap sum (take-digits 1 (256 * g + n) m v within ∙ digits-add 1 (256 * g) n v)
    ∙ sum_by-append (λ x. x) (digits 1 (256 * g) v) (digits 1 n (v / 2 ^ (1 * (256 * g))))
    ∙ (λ i. sum (sym (take-digits 1 (256 * g) m v (omega arith)) i) + sum (digits 1 n ((ap (λ k. v / 2 ^ k) bits ∙ sym (value-behind 8 (32 * g) bytes narrow)) i)))

-- the marks of one group more
pub next_group : (ms : List ℕ) (m g n : ℕ) → length ms ≡ m → n ≡ min (m - 256 * g) 256 → take (256 * g + n) ms ≡ take (256 * (g + 1)) ms
next_group ms m g n long is =
    ⊎_elim
    (λ h. take_all (256 * g + n) ms (omega arith) ∙ sym (take_all (256 * (g + 1)) ms (omega arith)))
    (λ h. let e : 256 * g + n ≡ 256 * (g + 1) = omega arith in ap (λ k. take k ms) e)
    (cases_lt m (256 * (g + 1)))

pub get_or-directory : (ms : List ℕ) (g : ℕ) → g < entries (length ms) → get_or (directory ms) g 0 ≡ sum (take (256 * g) ms)
get_or-directory ms g h = get_or-map-range_with_len (λ k. sum (take (256 * k) ms)) 0 (entries (length ms)) g g 0 h (zero-add g)
