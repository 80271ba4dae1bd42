-- The text of a reply.
use Rattle.std.specs.Prelude.{ℕ, List, [], ◌∷◌, ◌++◌, Some, None, Option, Ok, Err, decimal, Result}
use Rattle.book.specs.Refusals.{number}
use Rattle.book.specs.declared.refusal.Refused.{Refused}
use Rattle.book.specs.declared.refusal.Refused.TheVariants.{Side, Sheet, Line}
use Rattle.book.specs.declared.reply.Reply.{Reply}

-- a letter and a number behind it
abbrev pub opening : ℕ → ℕ → List ℕ
opening letter n = letter ∷ 32 ∷ decimal n

-- the letter, then 0 and what is told, or the number of the refusal; a line that is not understood is told by `?` (63)
abbrev pub text_of : ℕ → Result (Option ℕ) Refused → List ℕ
text_of letter (Ok None) = opening letter 0
text_of letter (Ok (Some n)) = opening letter 0 ++ 32 ∷ decimal n
text_of letter (Err (Side refused)) = opening letter (number (Side refused))
text_of letter (Err (Sheet refused)) = opening letter (number (Sheet refused))
text_of letter (Err (Line refused)) = opening 63 (number (Line refused))

abbrev pub text : Reply → List ℕ
text r = text_of r.letter r.outcome

-- a reply is a line of its own: byte 10 ends it
abbrev pub line : Reply → List ℕ
line r = text r ++ 10 ∷ []
