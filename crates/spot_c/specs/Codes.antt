-- The cell code of a number.
use Rattle.std.specs.Prelude.{◌≡◌, ℕ, Some, None, Ok, Err, Result}
use Rattle.cellcode.specs.Ring.{ring}
use Rattle.cellcode.specs.Row.{row}
use Rattle.spot_c.specs.Spots.{code_by, Code as Meant}
use Rattle.spot_c.specs.declared.code.Code.{Code}
use Rattle.spot_c.specs.declared.refusal.NoCode.{NoCode}

-- what a code means
abbrev pub meant : Code → Meant
meant Code.Ring = ring
meant Code.Row = row

-- the code of a number, or that it is none of a code
abbrev pub Names : ℕ → Result Code NoCode → Type 0
Names n (Ok code) = code_by n ≡ Some (meant code)
Names n (Err e) = code_by n ≡ None
