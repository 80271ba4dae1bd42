-- The numbers that a list k bits up has, one by one. Assumes nothing.
use Rattle.std.proofs.Common.{◌≡◌, ℕ, zero, suc, ◌+◌, ◌*◌, ◌/◌, ◌^◌, ◌<◌, ◌≤◌, min, true, not, ◌&&◌, eqb, ltb, List, [], ◌∷◌, ◌++◌, map, length, get_or, take, drop, Some, None, filter, Option, sym, refl, ap, ◌∙◌, inl, inr, ⊎_elim, mod-eq_of_lt, mul-le-mul_left, arith, length-append, take-append-drop, pow_mono, w64, Fits}
use native.Mathlib.Nat.{div-eq_of_lt}
use Rattle.std.proofs.lemmas.List.Elements.{filter-append}
use Rattle.std.proofs.ByRecursion.{All-from_get_or}
use Rattle.std.proofs.lemmas.List.{map-append, take_more}
use Rattle.std.proofs.lemmas.Bool.{cases_Bool, lt-leb, cases_lt, le-leb, le-ltb, lt-ltb, ltb-true, and_parts}
use Rattle.bits.specs.Packing.{Narrow, room}
use Rattle.bits.proofs.Words.{none_above}
use Rattle.numlist.specs.Calls.{narrow}
use Rattle.numlist.specs.Parts.{above, part_of, listed, lows, marked}

pub above-append : (k : ℕ) (xs ys : List ℕ) → above k (xs ++ ys) ≡ above k xs ++ above k ys
above-append zero xs ys = refl
above-append (suc k) xs ys =
    ap (map (λ x. x / 2 ^ suc k)) (filter-append (marked (suc k)) xs ys)
    ∙ map-append (λ x. x / 2 ^ suc k) (filter (marked (suc k)) xs) (filter (marked (suc k)) ys)

above_one : (k x : ℕ) → above k (x ∷ []) ≡ listed (part_of k x)
above_one zero x = refl
above_one (suc k) x = elim (cases_Bool (marked (suc k) x)) [ inl e ↦ rw e refl | inr e ↦ rw e refl ]

-- one number more
pub above_more : (k : ℕ) (xs : List ℕ) (i : ℕ) → i < length xs → above k (take (i + 1) xs) ≡ above k (take i xs) ++ listed (part_of k (get_or xs i 0))
above_more k xs i h =
    ap (above k) (take_more xs i 0 h)
    ∙ above-append k (take i xs) (get_or xs i 0 ∷ [])
    ∙ ap (λ l. above k (take i xs) ++ l) (above_one k (get_or xs i 0))

pub above-fewer : (k : ℕ) (xs : List ℕ) (i : ℕ) → length (above k (take i xs)) ≤ length (above k xs)
above-fewer k xs i =
    let whole = ap (λ l. length (above k l)) (sym (take-append-drop i xs)) ∙ ap length (above-append k (take i xs) (drop i xs)) ∙ length-append (above k (take i xs)) (above k (drop i xs)) in
    omega (arith, whole)

pub above_few : (k : ℕ) (xs : List ℕ) → length (above k xs) ≤ length xs
above_few k [] = elim k as (λ n. length (above n []) ≤ 0) [ zero ↦ omega arith | suc n ↦ omega arith ]
above_few k (x ∷ xs) =
    let one : length (listed (part_of k x)) ≤ 1 = few_listed (part_of k x) in
    omega (arith, ap length (above-append k (x ∷ []) xs), length-append (above k (x ∷ [])) (above k xs), ap length (above_one k x), above_few k xs)
  where
    few_listed : (o : Option ℕ) → length (listed o) ≤ 1
    few_listed (Some y) = omega arith
    few_listed None = omega arith

pub room_mono : (w : ℕ) {m n : ℕ} → m ≤ n → room w m ≤ room w n
room_mono w {m} {n} h = let more : w * m ≤ w * n = mul-le-mul_left w h in omega arith

-- numbers of w bits are their own low parts
pub lows-narrow : (w : ℕ) (xs : List ℕ) → Narrow w xs → lows w xs ≡ xs
lows-narrow w [] narrow = refl
lows-narrow w (x ∷ xs) small = λ i. mod-eq_of_lt small.0 i ∷ lows-narrow w xs small.1 i

-- the test of the width
pub narrow-true : (w : ℕ) (xs : List ℕ) → narrow w xs ≡ true → Narrow w xs
narrow-true w [] e = tt
narrow-true w (x ∷ xs) e =
    let p = and_parts (ltb x (2 ^ w)) (narrow w xs) e in
    (ltb-true x (2 ^ w) p.0, narrow-true w xs p.1)

-- numbers of 64 bits, where the width may be greater
pub narrow-min : (w : ℕ) (xs : List ℕ) → Narrow 64 xs → narrow (min 64 w) xs ≡ narrow w xs
narrow-min w [] fits = refl
narrow-min w (x ∷ xs) fits = (λ i. same i && narrow-min w xs fits.1 i)
  where
    same : ltb x (2 ^ min 64 w) ≡ ltb x (2 ^ w)
    same = ⊎_elim
        (λ h. let e : min 64 w ≡ w = omega arith in ap (λ n. ltb x (2 ^ n)) e)
        (λ h.
        let e : min 64 w ≡ 64 = omega arith in
        let more : 2 ^ 64 ≤ 2 ^ w = pow_mono h in
        ap (λ n. ltb x (2 ^ n)) e ∙ lt-ltb x (2 ^ 64) fits.0 ∙ sym (lt-ltb x (2 ^ w) (omega (arith, fits.0))))
        (cases_lt w 64)

pub above-none : (k : ℕ) → above k [] ≡ []
above-none zero = refl
above-none (suc k) = refl

-- a number that has bits above its k lowest
pub part_some : (k x : ℕ) → (k ≡ 0 → ⊥) → (x / 2 ^ k ≡ 0 → ⊥) → Some (x / 2 ^ k) ≡ part_of k x
part_some zero x some high = absurd (some refl)
part_some (suc k) x some high =
    ⊎_elim
    (λ h. absurd (high (div-eq_of_lt h)))
    (λ h. sym (rw (le-leb (2 ^ suc k) x h) refl))
    (cases_lt x (2 ^ suc k))

pub are_words : (xs : List ℕ) → ((i : ℕ) → Fits w64 (get_or xs i 0)) → Narrow 64 xs
are_words xs fits = All-from_get_or (λ x. x < 2 ^ 64) xs 0 (λ i h. (fits i).fits)

pub marked_high_bits : (b x : ℕ) → not (eqb (x / 2 ^ b) 0) ≡ marked b x
marked_high_bits b x =
    ap not (none_above x b)
    ∙ ⊎_elim
    (λ h. ap not (lt-ltb x (2 ^ b) h) ∙ sym (lt-leb (2 ^ b) x h))
    (λ h. ap not (le-ltb x (2 ^ b) h) ∙ sym (le-leb (2 ^ b) x h))
    (cases_lt x (2 ^ b))
