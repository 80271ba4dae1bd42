-- The three measures supplied keep the laws. Assumes nothing.
use Rattle.std.specs.Prelude.{◌≡◌, ℕ, ◌+◌, ◌%◌, ◌^◌, ◌<◌, ◌≤◌, min, max}
use Rattle.std.proofs.Common.{arith}
use Rattle.measure.specs.Measures.{MeasureLaws}
use Rattle.measure.specs.Counts.{counts}
use Rattle.measure.specs.Sums.{sums}
use Rattle.measure.specs.Extents.{extents}

in_range : (n : ℕ) → n % 2 ^ 64 < 2 ^ 64
in_range n = omega arith

sum_associative : (k m n : ℕ) → ((k + m) % 2 ^ 64 + n) % 2 ^ 64 ≡ (k + (m + n) % 2 ^ 64) % 2 ^ 64
sum_associative k m n = omega arith

sum_commutative : (m n : ℕ) → (m + n) % 2 ^ 64 ≡ (n + m) % 2 ^ 64
sum_commutative m n = omega arith

sum_neutral : (n : ℕ) → n < 2 ^ 64 → (0 + n) % 2 ^ 64 ≡ n
sum_neutral n small = omega arith

pub count_laws : MeasureLaws counts
count_laws = record {
  none_good = omega arith;
  one_good = λ c. omega arith;
  join_good = λ m n _ _. in_range (m + n);
  associative = λ k m n _ _ _. sum_associative k m n;
  commutative = λ m n _ _. sum_commutative m n;
  neutral = sum_neutral;
}

pub sums_laws : MeasureLaws sums
sums_laws = record {
  none_good = (omega arith, omega arith, omega arith);
  one_good = λ c. (in_range _, in_range _, in_range _);
  join_good = λ t u _ _. (in_range _, in_range _, in_range _);
  associative = λ t u v _ _ _ i. record {
    x = sum_associative t.x u.x v.x i;
    y = sum_associative t.y u.y v.y i;
    squares = sum_associative t.squares u.squares v.squares i;
  };
  commutative = λ t u _ _ i. record {
    x = sum_commutative t.x u.x i;
    y = sum_commutative t.y u.y i;
    squares = sum_commutative t.squares u.squares i;
  };
  neutral = λ t good i. record {
    x = sum_neutral t.x good.0 i;
    y = sum_neutral t.y good.1 i;
    squares = sum_neutral t.squares good.2 i;
  };
}

min_in_range : (m n : ℕ) → m ≤ 4294967295 → min m n ≤ 4294967295
min_in_range m n small = omega arith

min_associative : (k m n : ℕ) → min (min k m) n ≡ min k (min m n)
min_associative k m n = omega arith

max_associative : (k m n : ℕ) → max (max k m) n ≡ max k (max m n)
max_associative k m n = omega arith

min_commutative : (m n : ℕ) → min m n ≡ min n m
min_commutative m n = omega arith

max_commutative : (m n : ℕ) → max m n ≡ max n m
max_commutative m n = omega arith

min_neutral : (n : ℕ) → n ≤ 4294967295 → min 4294967295 n ≡ n
min_neutral n small = omega arith

max_neutral : (n : ℕ) → max 0 n ≡ n
max_neutral n = omega arith

pub extent_laws : MeasureLaws extents
extent_laws = record {
  none_good = (omega arith, omega arith);
  one_good = λ c. (min_in_range _ c.x (omega arith), min_in_range _ c.y (omega arith));
  join_good = λ a b p _. (min_in_range a.left b.left p.0, min_in_range a.low b.low p.1);
  associative = λ a b c _ _ _ i. record {
    left = min_associative a.left b.left c.left i;
    right = max_associative a.right b.right c.right i;
    low = min_associative a.low b.low c.low i;
    high = max_associative a.high b.high c.high i;
  };
  commutative = λ a b _ _ i. record {
    left = min_commutative a.left b.left i;
    right = max_commutative a.right b.right i;
    low = min_commutative a.low b.low i;
    high = max_commutative a.high b.high i;
  };
  neutral = λ b good i. record {
    left = min_neutral b.left good.0 i;
    right = max_neutral b.right i;
    low = min_neutral b.low good.1 i;
    high = max_neutral b.high i;
  };
}
