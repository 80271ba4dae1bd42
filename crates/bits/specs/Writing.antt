-- What a pen has written.
use Rattle.std.specs.Prelude.{◌≡◌, ℕ, ◌+◌, ◌*◌, ◌%◌, ◌^◌, ◌≤◌, List, [], ◌∷◌, length, take, drop, Some, None, Option}
use Rattle.bits.specs.Packing.{value}
use Rattle.bits.specs.declared.pen.Pen.{Pen}

-- the numbers xs of w bits are written at the front of the bytes start, which are out now: the whole bytes are in out, the
-- other bits are still with the pen, and the bytes behind are as they were
pub record Written (w : ℕ) (p : Pen) (start out xs : List ℕ) : Type 0 where
  pub counted : 8 * p.at + p.fill ≡ w * length xs
  pub within : p.at ≤ length start
  pub long : length out ≡ length start
  pub held : value w xs ≡ p.bits * 2 ^ (8 * p.at) + value 8 (take p.at out)
  pub behind : drop p.at out ≡ drop p.at start

-- what is written of a number that may not be there: its lowest w bits, or nothing
abbrev pub pushed : ℕ → Option ℕ → List ℕ
pushed w (Some x) = x % 2 ^ w ∷ []
pushed w None = []
