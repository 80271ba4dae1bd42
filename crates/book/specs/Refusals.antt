-- The numbers by which the refusals are known: each layer's own.
use Rattle.std.specs.Prelude.{ℕ}
use Rattle.grid.specs.Refusals.{number as side_number}
use Rattle.sheet.specs.Refusals.{number as sheet_number}
use Rattle.line.specs.Refusals.{number as line_number}
use Rattle.book.specs.declared.refusal.Refused.{Refused}
use Rattle.book.specs.declared.refusal.Refused.TheVariants.{Side, Sheet, Line}

abbrev pub number : Refused → ℕ
number (Side refused) = side_number refused
number (Sheet refused) = sheet_number refused
number (Line refused) = line_number refused
