-- Words of 64 bits out of bytes. Assumes nothing.
use Rattle.std.proofs.Common.{◌≡◌, ℕ, zero, suc, ◌+◌, ◌-◌, ◌*◌, ◌/◌, ◌%◌, ◌^◌, ◌<◌, ◌≤◌, min, eqb, ltb, List, [], ◌∷◌, length, get_or, take, drop, sym, refl, ap, ◌∙◌, subst, ⊎_elim, lt_of_lt_of_le, mod-lt, mod-eq_of_lt, mul-le-mul_left, mul-zero, mul-suc, arith, lit<, lit≤, length-drop, pow_pos, pow_mono, shr-shr, w8, Fits}
use native.Mathlib.Nat.{div-eq_of_lt, zero-div}
use lib.Pow.{high, low, field}
use Rattle.std.specs.Int.{from_le_bytes, w64}
use Rattle.std.specs.Simd.{first_chunks}
use Rattle.std.proofs.lemmas.List.{drop_all, drop-drop, drop_more, get_or-take, get_or_past, length-take-le, take_all}
use Rattle.std.proofs.lemmas.Bool.{cases_lt, eq-eqb, ne_eqb, lt-ltb, le-ltb}
use Rattle.std.proofs.lemmas.Nat.{le-div}
use Rattle.std.proofs.ByRecursion.{All-drop, All-get_or, All-from_get_or}
use Rattle.bits.specs.Packing.{value, Narrow}
use Rattle.bits.proofs.Digits.{value-narrow}
use Rattle.bits.proofs.Packings.{mod_fewer, value-take}

-- what is behind the first k digits, be there fewer or not
pub value-behind : (w k : ℕ) (xs : List ℕ) → Narrow w xs → value w (drop k xs) ≡ value w xs / 2 ^ (w * k)
unfolding value
value-behind w zero xs narrow = let whole : value w xs / 1 ≡ value w xs = omega arith in sym (ap (λ b. value w xs / 2 ^ b) (mul-zero w) ∙ whole)
value-behind w (suc k) [] narrow = sym (zero-div (2 ^ (w * suc k)))
value-behind w (suc k) (x ∷ xs) narrow =
    value-behind w k xs narrow.1
    ∙ ap (λ n. n / 2 ^ (w * k)) (sym (high (value w xs) w narrow.0))
    ∙ shr-shr (value w xs * 2 ^ w + x) w (w * k)
    ∙ ap (λ b. (value w xs * 2 ^ w + x) / 2 ^ b) (omega (arith, mul-suc w k))

-- one digit more
pub value-more : (w : ℕ) (xs : List ℕ) (i j : ℕ) → j ≡ i + 1 → i < length xs → value w (drop i xs) ≡ value w (drop j xs) * 2 ^ w + get_or xs i 0
unfolding value
value-more w xs i j e h = ap (value w) (drop_more xs i 0 h) ∙ ap (λ k. value w (drop k xs) * 2 ^ w + get_or xs i 0) (sym e)

-- numbers that fit a byte each
pub are_bytes : (xs : List ℕ) → ((i : ℕ) → Fits w8 (get_or xs i 0)) → Narrow 8 xs
are_bytes xs fits = All-from_get_or (λ x. x < 2 ^ 8) xs 0 (λ i h. (fits i).fits)

-- what at most k bytes come to
pub value_few : (k : ℕ) (bytes : List ℕ) (from : ℕ) → Narrow 8 bytes → length bytes ≤ from + k → value 8 (drop from bytes) < 2 ^ (8 * k)
value_few k bytes from narrow few =
    let rest = drop from bytes in
    let short : 8 * length rest ≤ 8 * k = omega (arith, length-drop from bytes) in
    lt_of_lt_of_le (value-narrow 8 rest (All-drop (λ x. x < 2 ^ 8) from bytes narrow)) (pow_mono short)

-- what is left of bytes, where that is at most eight bytes
pub few_bytes : (bytes : List ℕ) (from : ℕ) → Narrow 8 bytes → length bytes < from + 8 → value 8 (drop from bytes) ≡ value 8 bytes / 2 ^ (8 * from) % 2 ^ 64
few_bytes bytes from narrow few =
    let small : value 8 (drop from bytes) < 2 ^ 64 = value_few 8 bytes from narrow (omega arith) in
    sym (mod-eq_of_lt small) ∙ ap (λ n. n % 2 ^ 64) (value-behind 8 from bytes narrow)

-- eight bytes, where they are there
pub eight_bytes : (bytes : List ℕ) (from : ℕ) → Narrow 8 bytes → from + 8 ≤ length bytes → get_or bytes from 0 + get_or bytes (from + 1) 0 * 256 + get_or bytes (from + 2) 0 * 65536 + get_or bytes (from + 3) 0 * 16777216 + get_or bytes (from + 4) 0 * 4294967296 + get_or bytes (from + 5) 0 * 1099511627776 + get_or bytes (from + 6) 0 * 281474976710656 + get_or bytes (from + 7) 0 * 72057594037927936 ≡ value 8 bytes / 2 ^ (8 * from) % 2 ^ 64
eight_bytes bytes from narrow within = sym (ap (λ n. n % 2 ^ 64) (sym (value-behind 8 from bytes narrow) ∙ cut) ∙ low (value 8 (drop (from + 8) bytes)) 64 small)
  where
    sum : ℕ
    sum = get_or bytes from 0 + get_or bytes (from + 1) 0 * 256 + get_or bytes (from + 2) 0 * 65536 + get_or bytes (from + 3) 0 * 16777216 + get_or bytes (from + 4) 0 * 4294967296 + get_or bytes (from + 5) 0 * 1099511627776 + get_or bytes (from + 6) 0 * 281474976710656 + get_or bytes (from + 7) 0 * 72057594037927936

    step : (i : ℕ) → i < 8 → value 8 (drop (from + i) bytes) ≡ value 8 (drop (from + (i + 1)) bytes) * 256 + get_or bytes (from + i) 0
    step i h = value-more 8 bytes (from + i) (from + (i + 1)) (omega arith) (omega arith)

    byte : (i : ℕ) → i < 8 → get_or bytes (from + i) 0 < 256
    byte i h = All-get_or (λ x. x < 2 ^ 8) bytes (from + i) 0 (omega arith) narrow

    cut : value 8 (drop from bytes) ≡ value 8 (drop (from + 8) bytes) * 2 ^ 64 + sum
    cut =
        let first = value-more 8 bytes from (from + 1) refl (omega arith) in
        omega (arith, first, step 1 (lit< tt), step 2 (lit< tt), step 3 (lit< tt), step 4 (lit< tt), step 5 (lit< tt), step 6 (lit< tt), step 7 (lit< tt))

    small : sum < 2 ^ 64
    small =
        let first = All-get_or (λ x. x < 2 ^ 8) bytes from 0 (omega arith) narrow in
        omega (arith, first, byte 1 (lit< tt), byte 2 (lit< tt), byte 3 (lit< tt), byte 4 (lit< tt), byte 5 (lit< tt), byte 6 (lit< tt), byte 7 (lit< tt))

-- a front of the bytes, be there as many or not
pub value_front : (w k : ℕ) (xs : List ℕ) → Narrow w xs → value w (take k xs) ≡ value w xs % 2 ^ (w * k)
value_front w k xs narrow = ⊎_elim (λ h. value-take w k xs (omega arith) narrow) short (cases_lt k (length xs))
  where
    short : length xs ≤ k → value w (take k xs) ≡ value w xs % 2 ^ (w * k)
    short h =
        let fits : value w xs < 2 ^ (w * k) = lt_of_lt_of_le (value-narrow w xs narrow) (pow_mono (mul-le-mul_left w h)) in
        ap (value w) (take_all k xs h) ∙ sym (mod-eq_of_lt fits)

-- the word of eight bytes
word_value : (l : List ℕ) → length l ≡ 8 → from_le_bytes w64 l ≡ value 8 l
unfolding value
word_value l eight =
    let none : value 8 (drop 8 l) ≡ 0 = ap (value 8) (drop_all 8 l (omega arith)) in
    omega (arith, none, step 0 (lit< tt), step 1 (lit< tt), step 2 (lit< tt), step 3 (lit< tt), step 4 (lit< tt), step 5 (lit< tt), step 6 (lit< tt), step 7 (lit< tt))
  where
    step : (i : ℕ) → i < 8 → value 8 (drop i l) ≡ value 8 (drop (i + 1) l) * 256 + get_or l i 0
    step i h = value-more 8 l i (i + 1) refl (omega arith)

-- eight bytes, where they are there
pub word_at :
    (bytes : List ℕ) (from : ℕ) → Narrow 8 bytes → from + 8 ≤ length bytes
    → from_le_bytes w64 (take 8 (drop from bytes)) ≡ value 8 bytes / 2 ^ (8 * from) % 2 ^ 64
word_at bytes from narrow within =
    let rest = drop from bytes in
    let eight : length (take 8 rest) ≡ 8 = length-take-le 8 rest (omega (arith, length-drop from bytes)) in
    word_value (take 8 rest) eight
    ∙ value_front 8 8 rest (All-drop (λ x. x < 2 ^ 8) from bytes narrow)
    ∙ ap (λ n. n % 2 ^ 64) (value-behind 8 from bytes narrow)

-- bytes from a place on, or none where that is past their end
pub rest_is : (bytes : List ℕ) (from start : ℕ) → start ≡ min from (length bytes) → take (length bytes - start) (drop start bytes) ≡ drop from bytes
rest_is bytes from start is =
    take_all (length bytes - start) (drop start bytes) (omega (arith, length-drop start bytes))
    ∙ ⊎_elim
    (λ h. ap (λ n. drop n bytes) (let e : start ≡ from = omega arith in e))
    (λ h. drop_all start bytes (omega arith) ∙ sym (drop_all from bytes h))
    (cases_lt from (length bytes))

-- word i of bytes that are cut into words
chunk_at : (k i : ℕ) (bytes d : List ℕ) → i < k → get_or (first_chunks 8 k bytes) i d ≡ take 8 (drop (8 * i) bytes)
chunk_at zero i bytes d h = absurd (omega arith)
chunk_at (suc k) zero bytes d h = refl
chunk_at (suc k) (suc i) bytes d h =
    let next : i < k = omega arith in
    let at : 8 + 8 * i ≡ 8 * suc i = omega arith in
    chunk_at k i (drop 8 bytes) d next ∙ ap (take 8) (drop-drop (8 * i) 8 bytes ∙ ap (λ n. drop n bytes) at)

pub chunk_word :
    (bytes d : List ℕ) (words i : ℕ) (chunks : List (List ℕ)) → Narrow 8 bytes → words ≤ length bytes / 8 → i < words
    → chunks ≡ first_chunks 8 (length bytes / 8) bytes
    → from_le_bytes w64 (get_or (take words chunks) i d) ≡ value 8 bytes / 2 ^ (8 * (8 * i)) % 2 ^ 64
chunk_word bytes d words i chunks narrow few h cut =
    let k = length bytes / 8 in
    let one : i < k = omega arith in
    ap (from_le_bytes w64) (get_or-take words chunks i d h ∙ ap (λ l. get_or l i d) cut ∙ chunk_at k i bytes d one)
    ∙ word_at bytes (8 * i) narrow (omega arith)

-- the field of a word
pub field_of_word : (n at w : ℕ) → w ≤ 48 → n / 2 ^ (8 * (at / 8)) % 2 ^ 64 / 2 ^ (at % 8) % 2 ^ w ≡ n / 2 ^ at % 2 ^ w
field_of_word n at w h =
    let k = at % 8 in
    let wide : 64 ≡ (64 - k) + k = omega arith in
    let enough : w ≤ 64 - k = omega arith in
    let place : 8 * (at / 8) + k ≡ at = omega arith in
    ap (λ b. n / 2 ^ (8 * (at / 8)) % 2 ^ b / 2 ^ k % 2 ^ w) wide
    ∙ ap (λ m. m % 2 ^ w) (field (n / 2 ^ (8 * (at / 8))) (64 - k) k)
    ∙ mod_fewer (n / 2 ^ (8 * (at / 8)) / 2 ^ k) enough
    ∙ ap (λ m. m % 2 ^ w) (shr-shr n (8 * (at / 8)) k ∙ ap (λ b. n / 2 ^ b) place)

-- no bit is 1 behind the bytes
pub past_bytes : (bytes : List ℕ) (at : ℕ) → Narrow 8 bytes → length bytes ≤ at / 8 → value 8 bytes / 2 ^ at ≡ 0
past_bytes bytes at narrow past =
    let far : 8 * length bytes ≤ at = omega arith in
    div-eq_of_lt (lt_of_lt_of_le (value-narrow 8 bytes narrow) (pow_mono far))

-- the byte at a place, 0 past the end
pub byte_at : (bytes : List ℕ) (p : ℕ) → Narrow 8 bytes → get_or bytes p 0 ≡ value 8 bytes / 2 ^ (8 * p) % 2 ^ 8
byte_at bytes p narrow = ⊎_elim inside past (cases_lt p (length bytes))
  where
    inside : p < length bytes → get_or bytes p 0 ≡ value 8 bytes / 2 ^ (8 * p) % 2 ^ 8
    inside h =
        let byte = get_or bytes p 0 in
        let rest = value 8 (drop (p + 1) bytes) in
        let small : byte < 256 = All-get_or (λ x. x < 2 ^ 8) bytes p 0 h narrow in
        let last : byte ≡ (rest * 256 + byte) % 256 = omega arith in
        last ∙ ap (λ n. n % 2 ^ 8) (sym (value-more 8 bytes p (p + 1) refl h) ∙ value-behind 8 p bytes narrow)

    past : length bytes ≤ p → get_or bytes p 0 ≡ value 8 bytes / 2 ^ (8 * p) % 2 ^ 8
    past h = get_or_past bytes p 0 h ∙ sym (ap (λ n. n % 2 ^ 8) (past_bytes bytes (8 * p) narrow (omega arith)))

-- the bit of a byte
pub bit_of_byte : (n at : ℕ) → n / 2 ^ (8 * (at / 8)) % 2 ^ 8 / 2 ^ (at % 8) % 2 ^ 1 ≡ n / 2 ^ at % 2 ^ 1
bit_of_byte n at =
    let k = at % 8 in
    let wide : 8 ≡ (8 - k) + k = omega arith in
    let enough : 1 ≤ 8 - k = omega arith in
    let place : 8 * (at / 8) + k ≡ at = omega arith in
    ap (λ b. n / 2 ^ (8 * (at / 8)) % 2 ^ b / 2 ^ k % 2 ^ 1) wide
    ∙ ap (λ m. m % 2 ^ 1) (field (n / 2 ^ (8 * (at / 8))) (8 - k) k)
    ∙ mod_fewer (n / 2 ^ (8 * (at / 8)) / 2 ^ k) enough
    ∙ ap (λ m. m % 2 ^ 1) (shr-shr n (8 * (at / 8)) k ∙ ap (λ b. n / 2 ^ b) place)

-- the fill bits: none where the bits fill their bytes
pub no_fill : (bytes : List ℕ) (bits : ℕ) → Narrow 8 bytes → bits % 8 ≡ 0 → value 8 (take ((bits + 7) / 8) bytes) / 2 ^ bits ≡ 0
no_fill bytes bits narrow whole =
    let last : 8 * ((bits + 7) / 8) ≡ bits = omega arith in
    div-eq_of_lt (subst (λ n. value 8 (take ((bits + 7) / 8) bytes) < n) (ap (λ b. 2 ^ b) last)
    (subst (λ n. n < 2 ^ (8 * ((bits + 7) / 8))) (sym (value_front 8 ((bits + 7) / 8) bytes narrow)) (mod-lt (value 8 bytes) (pow_pos (8 * ((bits + 7) / 8))))))

-- and otherwise those of one byte
pub fill_of_byte :
    (bytes : List ℕ) (bits : ℕ) → Narrow 8 bytes → 0 < bits % 8
    → value 8 bytes / 2 ^ (8 * (bits / 8)) % 2 ^ 64 % 2 ^ 8 / 2 ^ (bits % 8) ≡ value 8 (take ((bits + 7) / 8) bytes) / 2 ^ bits
fill_of_byte bytes bits narrow part =
    let n = value 8 bytes in
    let k = 8 * (bits / 8) in
    let s = bits % 8 in
    let byte : 8 ≡ (8 - s) + s = omega arith in
    let eight : 8 ≤ 64 = lit≤ tt in
    let place : k + s ≡ bits = omega arith in
    let end : 8 * ((bits + 7) / 8) ≡ (8 - s) + bits = omega arith in
    ap (λ m. m / 2 ^ s) (mod_fewer (n / 2 ^ k) eight)
    ∙ ap (λ b. n / 2 ^ k % 2 ^ b / 2 ^ s) byte
    ∙ field (n / 2 ^ k) (8 - s) s
    ∙ ap (λ m. m % 2 ^ (8 - s)) (shr-shr n k s ∙ ap (λ b. n / 2 ^ b) place)
    ∙ sym (field n (8 - s) bits)
    ∙ ap (λ b. n % 2 ^ b / 2 ^ bits) (sym end)
    ∙ ap (λ m. m / 2 ^ bits) (sym (value_front 8 ((bits + 7) / 8) bytes narrow))

-- a number without bits above the first so many
pub none_above : (n bits : ℕ) → eqb (n / 2 ^ bits) 0 ≡ ltb n (2 ^ bits)
none_above n bits =
    ⊎_elim
    (λ h. eq-eqb (n / 2 ^ bits) 0 (div-eq_of_lt h) ∙ sym (lt-ltb n (2 ^ bits) h))
    (λ h. ne_eqb (n / 2 ^ bits) 0 (λ e. let some = le-div 1 n (2 ^ bits) (pow_pos bits) (omega arith) in omega arith) ∙ sym (le-ltb n (2 ^ bits) h))
    (cases_lt n (2 ^ bits))
