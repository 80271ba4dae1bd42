-- What a pen writes. Assumes nothing.
use Rattle.std.proofs.Common.{◌≡◌, ℕ, zero, suc, ◌+◌, ◌-◌, ◌*◌, ◌/◌, ◌%◌, ◌^◌, ◌<◌, ◌≤◌, List, [], ◌∷◌, ◌++◌, length, take, drop, Some, None, Option, sym, refl, ap, ◌∙◌, subst, append_assoc, append-nil, lt_of_lt_of_le, add-zero, mod-lt, mod-eq_of_lt, mul-zero, mul-suc, mul-add, add-one, arith, length-append, length-drop, pow_pos, pow_mono, pow-add, shr-shr, shr_lt}
use native.Mathlib.Nat.{div-div-eq-div-mul}
use lib.Arith.{digits_lt}
use lib.Bits.{bit_or}
use lib.Pow.{split, high, low, shl-shr, mod-pow-add}
use Rattle.std.proofs.lemmas.List.{length_push, length-take-le, take_at, drop_at, drop-drop}
use Rattle.std.proofs.lemmas.Nat.{or_shifted, or_comm}
use Rattle.std.proofs.ByRecursion.{All-take, All-append}
use Rattle.bits.specs.Packing.{value, digits, Narrow, room, packed}
use Rattle.std.specs.Option.{unwrap_or}
use Rattle.bits.specs.Writing.{Written, pushed}
use Rattle.bits.specs.declared.pen.Pen.{Pen}
use Rattle.bits.proofs.Digits.{length_digits, narrow-digits, value-digits, digits_value, value-append}

-- one digit more
pub digits_more : (w k n : ℕ) → digits w (suc k) n ≡ digits w k n ++ n / 2 ^ (w * k) % 2 ^ w ∷ []
unfolding digits
digits_more w zero n = let whole : n / 1 ≡ n = omega arith in ap (λ m. m % 2 ^ w ∷ []) (sym (ap (λ b. n / 2 ^ b) (mul-zero w) ∙ whole))
digits_more w (suc k) n =
    ap (λ l. n % 2 ^ w ∷ l) (digits_more w k (n / 2 ^ w))
    ∙ ap (λ m. n % 2 ^ w ∷ digits w k (n / 2 ^ w) ++ m % 2 ^ w ∷ []) (shr-shr n w (w * k) ∙ ap (λ b. n / 2 ^ b) (omega (arith, mul-suc w k)))

-- the bytes of a word
pub word_digits : (n : ℕ) → (n % 256) ∷ (n / 256 % 256) ∷ (n / 65536 % 256) ∷ (n / 16777216 % 256) ∷ (n / 4294967296 % 256) ∷ (n / 1099511627776 % 256) ∷ (n / 281474976710656 % 256) ∷ (n / 72057594037927936 % 256) ∷ [] ≡ digits 8 8 n
unfolding digits
word_digits n = simp div-div-eq-div-mul

-- a number that stands above bits, where both together may have more than 64
abbrev pub joined : ℕ → ℕ → ℕ → ℕ
joined number fill bits = number * 2 ^ fill + bits

module _ (number fill bits : ℕ) (part : fill < 64) (below : bits < 2 ^ fill) where
  wide : 64 ≡ (64 - fill) + fill
  wide = omega arith

  empty : (number * 2 ^ fill) % 2 ^ fill ≡ 0
  empty =
      let none : number * 2 ^ fill ≡ number * 2 ^ fill + 0 = omega arith in
      ap (λ n. n % 2 ^ fill) none ∙ low number fill (omega (arith, below))

  shifted : (number * 2 ^ fill) % 2 ^ 64 ≡ (number % 2 ^ (64 - fill)) * 2 ^ fill
  shifted =
      ap (λ b. (number * 2 ^ fill) % 2 ^ b) wide
      ∙ mod-pow-add (number * 2 ^ fill) (64 - fill) fill
      ∙ (λ i. (shl-shr number fill i % 2 ^ (64 - fill)) * 2 ^ fill + empty i)
      ∙ add-zero ((number % 2 ^ (64 - fill)) * 2 ^ fill)

  pub low_word : bit_or bits ((number * 2 ^ fill) % 2 ^ 64) ≡ joined number fill bits % 2 ^ 64
  low_word =
      or_comm bits ((number * 2 ^ fill) % 2 ^ 64)
      ∙ ap (λ n. bit_or n bits) shifted
      ∙ or_shifted (number % 2 ^ (64 - fill)) fill bits below
      ∙ (λ i. (sym (high number fill below) i % 2 ^ (64 - fill)) * 2 ^ fill + sym (low number fill below) i)
      ∙ sym (mod-pow-add (number * 2 ^ fill + bits) (64 - fill) fill)
      ∙ ap (λ b. (number * 2 ^ fill + bits) % 2 ^ b) (sym wide)

  pub high_word : number / 2 ^ (64 - fill) ≡ joined number fill bits / 2 ^ 64
  high_word =
      let e : fill + (64 - fill) ≡ 64 = omega arith in
      ap (λ n. n / 2 ^ (64 - fill)) (sym (high number fill below))
      ∙ shr-shr (number * 2 ^ fill + bits) fill (64 - fill)
      ∙ ap (λ b. (number * 2 ^ fill + bits) / 2 ^ b) e

  -- it has the bits of both
  pub joined-lt : (w : ℕ) → number < 2 ^ w → joined number fill bits < 2 ^ (fill + w)
  joined-lt w h =
      let e : 2 ^ w * 2 ^ fill ≡ 2 ^ (fill + w) = sym (pow-add 2 w fill) ∙ ap (λ b. 2 ^ b) (omega arith) in
      subst (λ n. joined number fill bits < n) e (digits_lt h below)

  -- it fits a word
  pub one_word : (w : ℕ) → number < 2 ^ w → fill + w < 64 → bit_or bits ((number * 2 ^ fill) % 2 ^ 64) ≡ joined number fill bits
  one_word w h fits =
      let few : fill + w ≤ 64 = omega arith in
      low_word ∙ mod-eq_of_lt (lt_of_lt_of_le (joined-lt w h) (pow_mono few))

  -- what is left above a word
  pub rest_lt : (w : ℕ) → number < 2 ^ w → 64 ≤ fill + w → number / 2 ^ (64 - fill) < 2 ^ (fill + w - 64)
  rest_lt w h more =
      let e : w ≡ (fill + w - 64) + (64 - fill) = omega arith in
      shr_lt (fill + w - 64) (64 - fill) (subst (λ b. number < 2 ^ b) e h)

pub written_none : (w : ℕ) (p : Pen) (start : List ℕ) → p.at ≡ 0 → p.bits ≡ 0 → p.fill ≡ 0 → Written w p start start []
unfolding value
written_none w p start at bits fill = record {
  counted = omega (arith, mul-zero w);
  within = omega arith;
  long = refl;
  held = sym ((λ i. bits i * 2 ^ (8 * at i) + value 8 (take (at i) start)));
  behind = refl;
}

-- a number of w bits is pushed
module _ (w : ℕ) (p q : Pen) (start out xs : List ℕ) (y : ℕ) (was : Written w p start out xs) where
  one_more : value w (xs ++ y ∷ []) ≡ joined y p.fill p.bits * 2 ^ (8 * p.at) + value 8 (take p.at out)
  unfolding value
  one_more =
      value-append w xs (y ∷ [])
      ∙ (λ i. (0 * 2 ^ w + y) * 2 ^ (sym was.counted i) + was.held i)
      ∙ ap (λ n. (0 * 2 ^ w + y) * n + (p.bits * 2 ^ (8 * p.at) + value 8 (take p.at out))) (pow-add 2 (8 * p.at) p.fill)
      ∙ regroup (2 ^ w) y (2 ^ (8 * p.at)) (2 ^ p.fill) p.bits (value 8 (take p.at out))
    where
      regroup : (z y a f b v : ℕ) → (0 * z + y) * (a * f) + (b * a + v) ≡ (y * f + b) * a + v
      regroup z y a f b v = omega arith

  longer : w * length (xs ++ y ∷ []) ≡ w * length xs + w
  longer = ap (λ n. w * n) (length_push xs y) ∙ ap (λ n. w * n) (add-one (length xs)) ∙ mul-suc w (length xs)

  -- and stays with the pen
  pub written_same : {z : ℕ} → y ≡ z → q.at ≡ p.at → q.fill ≡ p.fill + w → q.bits ≡ joined y p.fill p.bits → Written w q start out (xs ++ z ∷ [])
  written_same e at fill bits = subst (λ n. Written w q start out (xs ++ n ∷ [])) e record {
    counted = omega (arith, longer, was.counted);
    within = omega (arith, was.within);
    long = was.long;
    held = one_more ∙ sym (λ i. bits i * 2 ^ (8 * at i) + value 8 (take (at i) out));
    behind = (λ i. drop (at i) out) ∙ was.behind ∙ sym (λ i. drop (at i) start);
  }

  -- or fills a word
  module _ (word : ℕ) (after : List ℕ) (filled : 64 ≤ p.fill + w) (room : p.at + 8 ≤ length start)
      (is : word ≡ joined y p.fill p.bits % 2 ^ 64)
      (wrote : after ≡ take p.at out ++ (digits 8 8 word ++ drop (p.at + 8) out))
      (at : q.at ≡ p.at + 8) (fill : q.fill ≡ p.fill + w - 64) (bits : q.bits ≡ joined y p.fill p.bits / 2 ^ 64) where
    taken : length (take p.at out) ≡ p.at
    taken = length-take-le p.at out (omega (arith, was.long))

    front_now : take (p.at + 8) after ≡ take p.at out ++ digits 8 8 word
    front_now =
        ap (take (p.at + 8)) (wrote ∙ sym (append_assoc (take p.at out) (digits 8 8 word) (drop (p.at + 8) out)))
        ∙ take_at (take p.at out ++ digits 8 8 word) (drop (p.at + 8) out) (p.at + 8) (length-append (take p.at out) (digits 8 8 word) ∙ (λ i. taken i + length_digits 8 8 word i))

    behind_now : drop (p.at + 8) after ≡ drop (p.at + 8) out
    behind_now =
        ap (drop (p.at + 8)) (wrote ∙ sym (append_assoc (take p.at out) (digits 8 8 word) (drop (p.at + 8) out)))
        ∙ drop_at (take p.at out ++ digits 8 8 word) (drop (p.at + 8) out) (p.at + 8) (length-append (take p.at out) (digits 8 8 word) ∙ (λ i. taken i + length_digits 8 8 word i))

    value_now : value 8 (take (p.at + 8) after) ≡ word * 2 ^ (8 * p.at) + value 8 (take p.at out)
    value_now =
        ap (value 8) front_now
        ∙ value-append 8 (take p.at out) (digits 8 8 word)
        ∙ (λ i. (value-digits 8 8 word ∙ mod-eq_of_lt small) i * 2 ^ (8 * taken i) + value 8 (take p.at out))
      where
        small : word < 2 ^ 64
        small = subst (λ n. n < 2 ^ 64) (sym is) (mod-lt (joined y p.fill p.bits) (pow_pos 64))

    pub written_word : {z : ℕ} → y ≡ z → Written w q start after (xs ++ z ∷ [])
    written_word e = subst (λ n. Written w q start after (xs ++ n ∷ [])) e record {
      counted = omega (arith, longer, was.counted);
      within = omega arith;
      long = ap length wrote ∙ length-append (take p.at out) (digits 8 8 word ++ drop (p.at + 8) out) ∙ omega (arith, taken, length-append (digits 8 8 word) (drop (p.at + 8) out), length_digits 8 8 word, length-drop (p.at + 8) out, was.long);
      held = one_more ∙ split_word ∙ sym (λ i. bits i * 2 ^ (8 * at i) + value 8 (take (at i) after));
      behind = (λ i. drop (at i) after) ∙ behind_now ∙ sym (drop-drop 8 p.at out) ∙ ap (drop 8) was.behind ∙ drop-drop 8 p.at start ∙ sym (λ i. drop (at i) start);
    }
      where
        regroup : (h m l a v : ℕ) → (h * m + l) * a + v ≡ h * (a * m) + (l * a + v)
        regroup h m l a v = omega arith

        split_word : joined y p.fill p.bits * 2 ^ (8 * p.at) + value 8 (take p.at out) ≡ (joined y p.fill p.bits / 2 ^ 64) * 2 ^ (8 * (p.at + 8)) + value 8 (take (p.at + 8) after)
        split_word =
            let all = joined y p.fill p.bits in
            ap (λ n. n * 2 ^ (8 * p.at) + value 8 (take p.at out)) (sym (split all 64))
            ∙ regroup (all / 2 ^ 64) (2 ^ 64) (all % 2 ^ 64) (2 ^ (8 * p.at)) (value 8 (take p.at out))
            ∙ (λ i. (all / 2 ^ 64) * sym (pow-add 2 (8 * p.at) 64) i + (sym is i * 2 ^ (8 * p.at) + value 8 (take p.at out)))
            ∙ (λ i. (all / 2 ^ 64) * 2 ^ (sym (mul-add 8 p.at 8) i) + sym value_now i)

-- the last bits are written, and fill the last byte up
module _ (w : ℕ) (p : Pen) (start out xs after : List ℕ) (count : ℕ) (bytes : Narrow 8 after) (was : Written w p start out xs)
    (is : count ≡ (p.fill + 7) / 8)
    (wrote : after ≡ take p.at out ++ (digits 8 count p.bits ++ drop (p.at + count) out)) where
  pub written_all : room w (length xs) ≤ length start → after ≡ packed w xs ++ drop (room w (length xs)) start
  written_all within =
      wrote
      ∙ sym (append_assoc (take p.at out) (digits 8 count p.bits) (drop (p.at + count) out))
      ∙ (λ i. packs i ++ behind i)
    where
      taken : length (take p.at out) ≡ p.at
      taken = length-take-le p.at out (omega (arith, was.long, was.within))

      -- the whole bytes stay
      fronts : Narrow 8 (take p.at out)
      fronts =
          let rest = digits 8 count p.bits ++ drop (p.at + count) out in
          let same = ap (take p.at) wrote ∙ take_at (take p.at out) rest p.at taken in
          subst (Narrow 8) same (All-take (λ x. x < 2 ^ 8) p.at after bytes)

      end : room w (length xs) ≡ p.at + count
      end = omega (arith, was.counted)

      behind : drop (p.at + count) out ≡ drop (room w (length xs)) start
      behind = sym (drop-drop count p.at out) ∙ ap (drop count) was.behind ∙ drop-drop count p.at start ∙ ap (λ n. drop n start) (sym end)

      small : p.bits < 2 ^ (8 * count)
      small = lt_of_lt_of_le p.low (pow_mono (omega arith))

      long : length (take p.at out ++ digits 8 count p.bits) ≡ room w (length xs)
      long = length-append (take p.at out) (digits 8 count p.bits) ∙ (λ i. taken i + length_digits 8 count p.bits i) ∙ sym end

      comes_to : value 8 (take p.at out ++ digits 8 count p.bits) ≡ value w xs
      comes_to =
          value-append 8 (take p.at out) (digits 8 count p.bits)
          ∙ (λ i. (value-digits 8 count p.bits ∙ mod-eq_of_lt small) i * 2 ^ (8 * taken i) + value 8 (take p.at out))
          ∙ sym was.held

      packs : take p.at out ++ digits 8 count p.bits ≡ packed w xs
      packs =
          sym (digits_value 8 (take p.at out ++ digits 8 count p.bits) (All-append (λ x. x < 2 ^ 8) (take p.at out) (digits 8 count p.bits) fronts (narrow-digits 8 count p.bits)))
          ∙ (λ i. digits 8 (long i) (comes_to i))

-- nothing is pushed
pub written-kept : (w : ℕ) (p q : Pen) (start out after xs : List ℕ) → q.at ≡ p.at → q.bits ≡ p.bits → q.fill ≡ p.fill → after ≡ out → Written w p start out xs → Written w q start after (xs ++ [])
written-kept w p q start out after xs at bits fill same was = subst (Written w q start after) (sym (append-nil xs)) record {
  counted = omega (arith, was.counted);
  within = omega (arith, was.within);
  long = ap length same ∙ was.long;
  held = was.held ∙ sym (λ i. bits i * 2 ^ (8 * at i) + value 8 (take (at i) (same i)));
  behind = (λ i. drop (at i) (same i)) ∙ was.behind ∙ sym (λ i. drop (at i) start);
}

-- the bits that a number takes, and none takes none
abbrev pub width_of : ℕ → Option ℕ → ℕ
width_of w (Some x) = w
width_of w None = 0

-- a number is pushed, or nothing is
pub written_some :
    (w wide number : ℕ) (o : Option ℕ) (p q : Pen) (start out after xs : List ℕ) → wide ≡ width_of w o → number ≡ unwrap_or o 0
    → (room wide (length xs + 1) ≤ length start → Written wide p start out xs → Written wide q start after (xs ++ number % 2 ^ wide ∷ []))
    → (wide ≡ 0 → (q.at ≡ p.at) × (q.bits ≡ p.bits) × (q.fill ≡ p.fill) × (after ≡ out))
    → room w (length (xs ++ pushed w o)) ≤ length start → Written w p start out xs → Written w q start after (xs ++ pushed w o)
written_some w few number (Some x) p q start out after xs is its push none within was =
    subst (λ n. Written w q start after (xs ++ n % 2 ^ w ∷ [])) its
    (subst (λ b. room b (length xs + 1) ≤ length start → Written b p start out xs → Written b q start after (xs ++ number % 2 ^ b ∷ [])) is push
    (subst (λ n. room w n ≤ length start) (length_push xs (x % 2 ^ w)) within) was)
written_some w few number None p q start out after xs is its push none within was =
    let kept = none is in
    written-kept w p q start out after xs kept.0 kept.1 kept.2 kept.3 was
