-- What the program replies to an input, line by line.
use Rattle.std.specs.Prelude.{ℕ, cond, List, [], ◌∷◌, ◌++◌, take, Some, None, Ok, Err, Option, Result}
use Rattle.std.specs.List.{flat_map}
use Rattle.grid.specs.Sides.{allowed}
use Rattle.sheet.specs.Counts.{Counts, counts, answer}
use Rattle.sheet.specs.declared.call.Call.{Call}
use Rattle.sheet.specs.declared.call.Call.TheVariants as call
use Rattle.sheet.specs.declared.refusal.Refusal.{Refusal}
use Rattle.line.specs.Grammar.{understood, opening}
use Rattle.line.specs.Pieces.{lines}
use Rattle.line.specs.declared.command.Command.{Command}
use Rattle.line.specs.declared.command.Command.TheVariants.{Grid, Put, TakeBack, Clear}
use Rattle.line.specs.declared.refusal.NotUnderstood.{NotUnderstood}
use Rattle.book.specs.Replies.{line}
use Rattle.book.specs.declared.refusal.Refused.{Refused}
use Rattle.book.specs.declared.refusal.Refused.TheVariants.{Side, Sheet, Line}
use Rattle.book.specs.declared.reply.Reply.{Reply}

-- the places of the program's sheet
abbrev pub sheet_places : ℕ
sheet_places = 1024

-- what comes of a line that is not understood
abbrev pub line_refused : Result (Option ℕ) Refused
line_refused = Err (Line (record {}))

-- the hits held, or the sheet's refusal
abbrev pub held_or_refused : Result ℕ Refusal → Result (Option ℕ) Refused
held_or_refused (Ok n) = Ok (Some n)
held_or_refused (Err refused) = Err (Sheet refused)

-- a line before a grid was accepted: only `g` is understood there
abbrev pub outcome_before : Result Command NotUnderstood → Result (Option ℕ) Refused
outcome_before (Ok (Grid side)) = cond (allowed side) (Ok None) (Err (Side (record {})))
outcome_before (Ok (Put c)) = line_refused
outcome_before (Ok (TakeBack c)) = line_refused
outcome_before (Ok Clear) = line_refused
outcome_before (Err e) = line_refused

-- a line on a sheet with the counts t: `g` is understood no more
abbrev pub outcome_on : ℕ → Counts → Result Command NotUnderstood → Result (Option ℕ) Refused
outcome_on side t (Ok (Grid s)) = line_refused
outcome_on side t (Ok (Put c)) = held_or_refused (answer side sheet_places t (call.Put c))
outcome_on side t (Ok (TakeBack c)) = held_or_refused (answer side sheet_places t (call.TakeBack c))
outcome_on side t (Ok Clear) = Ok None
outcome_on side t (Err e) = line_refused

-- the calls of the sheet that a line makes: one or none
abbrev pub calls : Result Command NotUnderstood → List Call
calls (Ok (Grid s)) = []
calls (Ok (Put c)) = call.Put c ∷ []
calls (Ok (TakeBack c)) = call.TakeBack c ∷ []
calls (Ok Clear) = call.Clear ∷ []
calls (Err e) = []

-- the letter of a line's command, and `?` where there is none (the text of a reply shows no letter there)
abbrev pub letter_of : Result Command NotUnderstood → ℕ
letter_of (Ok command) = opening command
letter_of (Err e) = 63

abbrev pub reply : Result Command NotUnderstood → Result (Option ℕ) Refused → Reply
reply said outcome = record { letter = letter_of said; outcome = outcome }

-- the replies to lines on a grid of this side, after the sheet's calls that the lines before them made
abbrev pub on_grid : ℕ → List Call → List (List ℕ) → List Reply
on_grid side past [] = []
on_grid side past (l ∷ others) =
    reply (understood l) (outcome_on side (counts side sheet_places past) (understood l)) ∷ on_grid side (past ++ calls (understood l)) others

-- the side of the grid that a line opens
abbrev pub opens : Result Command NotUnderstood → Option ℕ
opens (Ok (Grid side)) = cond (allowed side) (Some side) None
opens (Ok (Put c)) = None
opens (Ok (TakeBack c)) = None
opens (Ok Clear) = None
opens (Err e) = None

-- the replies to lines behind one that opens a grid, or does not
abbrev pub behind : Option ℕ → List Reply → List (List ℕ) → List Reply
behind None not_open others = not_open
behind (Some side) not_open others = on_grid side [] others

-- the replies to lines from the start
abbrev pub from_start : List (List ℕ) → List Reply
from_start [] = []
from_start (l ∷ others) =
    reply (understood l) (outcome_before (understood l)) ∷ behind (opens (understood l)) (from_start others) others

-- the text of replies, a line each
abbrev pub texts : List Reply → List ℕ
texts replies = flat_map line replies

-- what the program writes on an input, of which it reads 65,536 bytes at most
abbrev pub session : List ℕ → List ℕ
session input = texts (from_start (lines (take 65536 input)))
