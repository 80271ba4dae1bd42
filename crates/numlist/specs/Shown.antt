-- What the sections of a cut show.
use Rattle.std.specs.Prelude.{◌≡◌, ℕ, ◌<◌, Bool, ◌&&◌, List, length, drop, Ok, Err, Result}
use Rattle.bits.specs.Packing.{unpacked}
use Rattle.bits.specs.declared.width.Width.{Width}
use Rattle.numlist.specs.Cuts.{marks_at, below_at, marks_in, directory_in, below_in}
use Rattle.numlist.specs.Fixed.{filled}
use Rattle.numlist.specs.declared.count.Count.{Count}
use Rattle.numlist.specs.declared.fault.ListFault.{ListFault}
use Rattle.numlist.specs.declared.fault.Test.TheVariants.{TooFew}
use Rattle.numlist.specs.declared.places.Sections.{Sections}

-- the sections of so many numbers in bytes, or the fault of bytes that are too few
abbrev pub SectionsIn : Width → Count → List ℕ → Result Sections ListFault → Type 0
SectionsIn width count bytes (Ok s) = (s.width ≡ width) × (s.count ≡ count) × (s.bytes.now ≡ bytes)
SectionsIn width count bytes (Err fault) = (length bytes < below_at width.bits count.numbers) × (fault ≡ record { level = 0; test = TooFew })

-- the low parts, the marks and the directory
abbrev pub lows_of : Sections → List ℕ
lows_of s = unpacked s.width.bits s.count.numbers s.bytes.now

abbrev pub marks_of : Sections → List ℕ
marks_of s = marks_in s.width.bits s.bytes.now s.count.numbers

abbrev pub directory_of : Sections → List ℕ
directory_of s = directory_in s.width.bits s.bytes.now s.count.numbers

-- the fill bits of the low parts and of the marks are 0
abbrev pub filled_of : Sections → Bool
filled_of s = filled s.width.bits s.count.numbers s.bytes.now && filled 1 s.count.numbers (drop (marks_at s.width.bits s.count.numbers) s.bytes.now)

-- the bytes of the list below
abbrev pub below_of : Sections → List ℕ
below_of s = below_in s.width.bits s.bytes.now s.count.numbers
