-- Why an exported function refuses, in one number.
use Rattle.std.specs.Prelude.{ℕ, ◌+◌, ◌*◌, min, Ok, Err, Result}
use Rattle.cellcode.specs.Refusals.{number as code_number}
use Rattle.grid.specs.Refusals.{number as side_number}
use Rattle.numlist.specs.Refusals.{write_number, open_number, read_number, test_number}
use Rattle.numlist.specs.declared.fault.ListFault.{ListFault}
use Rattle.numlist.specs.declared.refusal.OpenRefused.{OpenRefused}
use Rattle.numlist.specs.declared.refusal.ReadRefused.{ReadRefused}
use Rattle.pile.specs.Refusals.{number as pile_number}
use Rattle.sheet.specs.Refusals.{number as sheet_number}
use Rattle.spot.specs.Refusals.{make_number, pack_number}
use Rattle.spot_c.specs.Lists.{refused}
use Rattle.spot_c.specs.declared.refusal.Refused.{Refused}

-- the number of a fault of bytes: 13, the test and the level
abbrev pub fault_number : ListFault → ℕ
fault_number fault = 13 + 256 * test_number fault.test + 65536 * min fault.level 255

-- the number of a refusal: that of its layer, and of faulty bytes also their test and level
abbrev pub number : Refused → ℕ
number (Refused.Side why) = side_number why
number (Refused.OffGrid why) = code_number why
number (Refused.Sheet why) = sheet_number why
number (Refused.Pile why) = pile_number why
number (Refused.Write why) = write_number why
number (Refused.Open OpenRefused.TooMany) = open_number OpenRefused.TooMany
number (Refused.Open (OpenRefused.Faulty fault)) = fault_number fault
number (Refused.Read ReadRefused.TooMany) = read_number ReadRefused.TooMany
number (Refused.Read ReadRefused.NoNumber) = read_number ReadRefused.NoNumber
number (Refused.Read (ReadRefused.Faulty fault)) = fault_number fault
number (Refused.Make why) = make_number why
number (Refused.Pack why) = pack_number why
number (Refused.Code why) = 11

-- an answer in one number: what was found, or the refusal
abbrev pub answer_told : Result ℕ Refused → ℕ
answer_told (Ok n) = n
answer_told (Err why) = refused (number why)

-- the same of a call that finds nothing: 0, or the refusal
abbrev pub done_told : Result (Unit {0}) Refused → ℕ
done_told (Ok _) = 0
done_told (Err why) = refused (number why)
