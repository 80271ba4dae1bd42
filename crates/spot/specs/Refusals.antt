-- The number of each refusal.
use Rattle.std.specs.Prelude.{ℕ}
use Rattle.spot.specs.declared.refusal.MakeRefused.{MakeRefused}
use Rattle.spot.specs.declared.refusal.PackRefused.{PackRefused}
use Rattle.spot.specs.declared.refusal.PackRefused.TheVariants.{NoScratch, NoRoom}

abbrev pub make_number : MakeRefused → ℕ
make_number refused = 11

abbrev pub pack_number : PackRefused → ℕ
pack_number NoScratch = 6
pack_number NoRoom = 5
