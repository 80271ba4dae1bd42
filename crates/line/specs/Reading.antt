-- What is read of a line, and of several.
use Rattle.std.specs.Prelude.{◌≡◌, ℕ, List, [], ◌∷◌, Some, None, Option, Result}
use Rattle.line.specs.Pieces.{pieces}
use Rattle.line.specs.Grammar.{understood}
use Rattle.line.specs.declared.command.Command.{Command}
use Rattle.line.specs.declared.refusal.NotUnderstood.{NotUnderstood}

-- all pieces between spaces
abbrev pub words : List ℕ → List (List ℕ)
words bs = (pieces 32 bs).0 ∷ (pieces 32 bs).1

-- what the first of some lines says, if there is a line
abbrev pub first_command : List (List ℕ) → Option (Result Command NotUnderstood)
first_command [] = None
first_command (line ∷ others) = Some (understood line)

abbrev pub behind_first : List (List ℕ) → List (List ℕ)
behind_first [] = []
behind_first (line ∷ others) = others

-- of the lines that were left the first was read, if there was one, and the others are left
pub record Reads (before : List (List ℕ)) (said : Option (Result Command NotUnderstood)) (after : List (List ℕ)) : Type 0 where
  pub command : said ≡ first_command before
  pub behind : after ≡ behind_first before
