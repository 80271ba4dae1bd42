-- The number of each refusal, and of each test.
use Rattle.std.specs.Prelude.{ℕ}
use Rattle.numlist.specs.declared.fault.Test.{Test}
use Rattle.numlist.specs.declared.refusal.CutRefused.{CutRefused}
use Rattle.numlist.specs.declared.refusal.OpenRefused.{OpenRefused}
use Rattle.numlist.specs.declared.refusal.ReadRefused.{ReadRefused}
use Rattle.numlist.specs.declared.refusal.WriteRefused.{WriteRefused}

abbrev pub write_number : WriteRefused → ℕ
write_number WriteRefused.TooMany = 11
write_number WriteRefused.TooLarge = 11
write_number WriteRefused.NoRoom = 5

abbrev pub open_number : OpenRefused → ℕ
open_number OpenRefused.TooMany = 11
open_number (OpenRefused.Faulty fault) = 13

abbrev pub read_number : ReadRefused → ℕ
read_number ReadRefused.TooMany = 11
read_number ReadRefused.NoNumber = 11
read_number (ReadRefused.Faulty fault) = 13

abbrev pub cut_number : CutRefused → ℕ
cut_number CutRefused.Width = 10
cut_number CutRefused.Reach = 11

abbrev pub test_number : Test → ℕ
test_number Test.TooFew = 1
test_number Test.Fill = 2
test_number Test.Directory = 3
test_number Test.ZeroPart = 4
