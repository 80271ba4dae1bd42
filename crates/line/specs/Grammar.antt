-- The grammar of a line: a letter, and decimal numbers with one space (byte 32) before each.
use Rattle.std.specs.Prelude.{ℕ, ◌+◌, ◌-◌, ◌*◌, Bool, true, cond, ◌&&◌, List, [], ◌∷◌, Some, None, Ok, Err, Option, Result, ◌==◌, nat_le}
use Rattle.line.specs.Pieces.{pieces}
use Rattle.line.specs.declared.command.Command.{Command}
use Rattle.line.specs.declared.command.Command.TheVariants.{Grid, Put, TakeBack, Clear}
use Rattle.line.specs.declared.refusal.NotUnderstood.{NotUnderstood}

-- a byte from '0' to '9'
abbrev pub digit : ℕ → Bool
digit b = nat_le 48 b && nat_le b 57

abbrev pub digits : List ℕ → Bool
digits [] = true
digits (b ∷ bs) = digit b && digits bs

-- what digits come to behind the digits of n, in decimal
abbrev pub value : ℕ → List ℕ → ℕ
value n [] = n
value n (b ∷ bs) = value (n * 10 + (b - 48)) bs

-- n and the digits of a word, where it has no other byte and they come to 4,294,967,295 at most
abbrev pub followed : ℕ → List ℕ → Option ℕ
followed n word = cond (digits word && nat_le (value n word) 4294967295) (Some (value n word)) None

-- the number that a word spells; zeros in front are allowed, but at least one digit is needed
abbrev pub spelled : List ℕ → Option ℕ
spelled [] = None
spelled (b ∷ bs) = followed 0 (b ∷ bs)

-- a number in front of others, where there are both
abbrev pub both : Option ℕ → Option (List ℕ) → Option (List ℕ)
both None rest = None
both (Some n) None = None
both (Some n) (Some ns) = Some (n ∷ ns)

-- the numbers of several words, where each spells one
abbrev pub numbers : List (List ℕ) → Option (List ℕ)
numbers [] = Some []
numbers (word ∷ words) = both (spelled word) (numbers words)

abbrev pub not_understood : Result Command NotUnderstood
not_understood = Err (record {})

-- the command of a letter (g is 103, p 112, t 116, c 99) and its numbers: g a side, p and t a cell, c none
abbrev pub command : ℕ → List ℕ → Result Command NotUnderstood
command l [] = cond (l == 99) (Ok Clear) not_understood
command l (a ∷ []) = cond (l == 103) (Ok (Grid a)) not_understood
command l (a ∷ b ∷ []) =
    cond (l == 112) (Ok (Put (record { x = a; y = b })))
    (cond (l == 116) (Ok (TakeBack (record { x = a; y = b }))) not_understood)
command l (a ∷ b ∷ d ∷ more) = not_understood

-- the first word is the letter alone
abbrev pub lettered : List ℕ → Option (List ℕ) → Result Command NotUnderstood
lettered [] ns = not_understood
lettered (l ∷ []) None = not_understood
lettered (l ∷ []) (Some ns) = command l ns
lettered (a ∷ b ∷ more) ns = not_understood

-- what a line says: its words stand between spaces
abbrev pub understood : List ℕ → Result Command NotUnderstood
understood line = lettered (pieces 32 line).0 (numbers (pieces 32 line).1)

-- the letter that a command's line opens with
abbrev pub opening : Command → ℕ
opening (Grid side) = 103
opening (Put cell) = 112
opening (TakeBack cell) = 116
opening Clear = 99
