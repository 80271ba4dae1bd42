-- What came of a line that asks for a grid.
use Rattle.std.specs.Prelude.{ℕ, None, Option, Ok, Err, Result}
use Rattle.grid.specs.declared.grid.Grid.{Grid}
use Rattle.book.specs.declared.refusal.Refused.{Refused}

abbrev pub side_of : Grid → ℕ
side_of g = g.side

-- an accepted grid tells nothing
abbrev pub outcome_of_grid : Result Grid Refused → Result (Option ℕ) Refused
outcome_of_grid (Ok g) = Ok None
outcome_of_grid (Err refused) = Err refused
