-- Numbers of w bits packed into bytes: one after another, from the least significant bit of the first byte on.
use Rattle.std.specs.Prelude.{ℕ, zero, suc, ◌+◌, ◌*◌, ◌/◌, ◌%◌, ◌^◌, ◌<◌, List, [], ◌∷◌, length}
use Rattle.std.specs.List.{AllByRecursion}

-- the number that digits of w bits come to, the first digit being the least
unfoldable pub value : ℕ → List ℕ → ℕ
value w [] = 0
value w (x ∷ xs) = value w xs * 2 ^ w + x

-- the k lowest digits of w bits of a number, the least first
unfoldable pub digits : ℕ → ℕ → ℕ → List ℕ
digits w zero n = []
digits w (suc k) n = n % 2 ^ w ∷ digits w k (n / 2 ^ w)

-- each number has at most w bits
abbrev pub Narrow : ℕ → List ℕ → Type 0
Narrow w xs = AllByRecursion (λ x. x < 2 ^ w) xs

-- the bytes that m numbers of w bits take, the last one filled up
abbrev pub room : ℕ → ℕ → ℕ
room w m = (w * m + 7) / 8

-- the bytes of numbers of w bits; what is left of the last byte is filled with 0 bits
abbrev pub packed : ℕ → List ℕ → List ℕ
packed w xs = digits 8 (room w (length xs)) (value w xs)

-- the m numbers of w bits that bytes begin with, whatever stands behind them
abbrev pub unpacked : ℕ → ℕ → List ℕ → List ℕ
unpacked w m bytes = digits w m (value 8 bytes)
