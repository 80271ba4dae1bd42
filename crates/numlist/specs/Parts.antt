-- The two parts of a number: its b lowest bits, and the bits above them.
use Rattle.std.specs.Prelude.{ℕ, zero, suc, ◌+◌, ◌*◌, ◌/◌, ◌%◌, ◌^◌, Bool, cond, List, [], ◌∷◌, map, length, take, drop, Some, None, sum, filter, Option, nat_le, slice_index}
use Rattle.std.specs.List.{range_with_len}

-- the low parts: the b lowest bits of each number
abbrev pub lows : ℕ → List ℕ → List ℕ
lows b xs = map (λ x. x % 2 ^ b) xs

-- a number has bits above its b lowest
abbrev pub marked : ℕ → ℕ → Bool
marked b x = nat_le (2 ^ b) x

-- a mark for each number: 1 where it has more than b bits
abbrev pub marks : ℕ → List ℕ → List ℕ
marks b xs = map (λ x. cond (marked b x) 1 0) xs

-- the high parts: the marked numbers without their b lowest bits, or said in another way, all numbers without their b
-- lowest bits, zeros left out
abbrev pub parts : ℕ → List ℕ → List ℕ
parts b xs = map (λ x. x / 2 ^ b) (filter (marked b) xs)

-- the numbers that a list k bits up has: at the top all of them, and further down the high parts
abbrev pub above : ℕ → List ℕ → List ℕ
above zero xs = xs
above (suc k) xs = parts (suc k) xs

-- entries of the directory of m marks: one for each 256 marks begun
abbrev pub entries : ℕ → ℕ
entries m = (m + 255) / 256

-- the directory of marks: entry g is the number of 1 marks before mark 256 × g
abbrev pub directory : List ℕ → List ℕ
directory ms = map (λ g. sum (take (256 * g) ms)) (range_with_len 0 (entries (length ms)))

-- low parts, marks and high parts woven together: a number with the mark 1 takes the next high part
unfoldable pub weave : ℕ → List ℕ → List ℕ → List ℕ → List ℕ
weave b [] ms hs = []
weave b (l ∷ ls) [] hs = []
weave b (l ∷ ls) (m ∷ ms) hs = (l + 2 ^ b * (m * slice_index hs 0)) ∷ weave b ls ms (drop m hs)

-- what a list k bits up has of a number
abbrev pub part_of : ℕ → ℕ → Option ℕ
part_of zero x = Some x
part_of (suc k) x = cond (marked (suc k) x) (Some (x / 2 ^ suc k)) None

abbrev pub listed : Option ℕ → List ℕ
listed (Some x) = x ∷ []
listed None = []
