-- Digits of w bits and the numbers that they come to. Assumes nothing.
use Rattle.std.proofs.Common.{◌≡◌, ℕ, zero, suc, ◌+◌, ◌*◌, ◌/◌, ◌%◌, ◌^◌, ◌<◌, List, [], ◌∷◌, ◌++◌, length, get_or, sym, refl, ap, ◌∙◌, mod-lt, mul_assoc, add-mul, mul-zero, mul-suc, arith, pow_pos, pow-add, shr-shr}
use lib.Arith.{digits_lt}
use lib.Pow.{high, low, mod-pow-add}
use Rattle.bits.specs.Packing.{value, digits, Narrow}

pub length_digits : (w k n : ℕ) → length (digits w k n) ≡ k
unfolding digits
length_digits w zero n = refl
length_digits w (suc k) n = ap suc (length_digits w k (n / 2 ^ w))

pub narrow-digits : (w k n : ℕ) → Narrow w (digits w k n)
unfolding digits
narrow-digits w zero n = tt
narrow-digits w (suc k) n = (mod-lt n (pow_pos w), narrow-digits w k (n / 2 ^ w))

-- w more bits above a digit
bits-suc : (w k : ℕ) → 2 ^ (w * suc k) ≡ 2 ^ (w * k) * 2 ^ w
bits-suc w k = ap (λ n. 2 ^ n) (mul-suc w k) ∙ pow-add 2 (w * k) w

pub value-digits : (w k n : ℕ) → value w (digits w k n) ≡ n % 2 ^ (w * k)
unfolding value digits
value-digits w zero n = let whole : n % 1 ≡ 0 = omega arith in sym (ap (λ b. n % 2 ^ b) (mul-zero w) ∙ whole)
value-digits w (suc k) n =
    ap (λ v. v * 2 ^ w + n % 2 ^ w) (value-digits w k (n / 2 ^ w))
    ∙ sym (mod-pow-add n (w * k) w)
    ∙ ap (λ b. n % 2 ^ b) (sym (mul-suc w k))

pub digits_value : (w : ℕ) (xs : List ℕ) → Narrow w xs → digits w (length xs) (value w xs) ≡ xs
unfolding value digits
digits_value w [] narrow = refl
digits_value w (x ∷ xs) narrow =
    (λ i. low (value w xs) w narrow.0 i ∷ digits w (length xs) (high (value w xs) w narrow.0 i))
    ∙ ap (λ l. x ∷ l) (digits_value w xs narrow.1)

pub value-narrow : (w : ℕ) (xs : List ℕ) → Narrow w xs → value w xs < 2 ^ (w * length xs)
unfolding value
value-narrow w [] narrow = pow_pos (w * 0)
value-narrow w (x ∷ xs) narrow = rw (bits-suc w (length xs)) (digits_lt (value-narrow w xs narrow.1) narrow.0)

-- the digit at place i
pub get_or-digits : (w k n i : ℕ) → i < k → get_or (digits w k n) i 0 ≡ n / 2 ^ (w * i) % 2 ^ w
unfolding digits
get_or-digits w zero n i h = absurd (omega arith)
get_or-digits w (suc k) n zero h =
    let whole : n / 1 ≡ n = omega arith in
    ap (λ m. m % 2 ^ w) (sym (ap (λ b. n / 2 ^ b) (mul-zero w) ∙ whole))
get_or-digits w (suc k) n (suc i) h =
    get_or-digits w k (n / 2 ^ w) i (omega arith)
    ∙ ap (λ m. m % 2 ^ w) (shr-shr n w (w * i) ∙ ap (λ b. n / 2 ^ b) (omega (arith, mul-suc w i)))

pub value-append : (w : ℕ) (xs ys : List ℕ) → value w (xs ++ ys) ≡ value w ys * 2 ^ (w * length xs) + value w xs
unfolding value
value-append w [] ys = let one : 2 ^ (w * 0) ≡ 1 = ap (λ b. 2 ^ b) (mul-zero w) in sym (ap (λ p. value w ys * p + 0) one ∙ omega arith)
value-append w (x ∷ xs) ys =
    let below = 2 ^ (w * length xs) in
    ap (λ v. v * 2 ^ w + x) (value-append w xs ys)
    ∙ omega (arith, add-mul (value w ys * below) (value w xs) (2 ^ w), mul_assoc (value w ys) below (2 ^ w), ap (λ p. value w ys * p) (bits-suc w (length xs)))
