use Rattle.std.proofs.Common.{◌^◌, sym, ◌∙◌, lt_of_lt_of_le, pow_mono}
use Rattle.std.proofs.lemmas.Bool.{le-leb, lt-ltb}
use Rattle.bits.proofs.Words.{none_above}
use Rattle.numlist.proofs.parts.fits.Goals as goal

pub returns-then-bits-ge64 : goal.returns-then-bits-ge64
returns-then-bits-ge64 c =
    let wide = c.if-bits-ge64.true in
    le-leb 64 c.args.bits wide
    ∙ sym (lt-ltb c.args.number (2 ^ c.args.bits) (lt_of_lt_of_le c.ranges.number.fits (pow_mono wide)))

pub returns-else-bits-ge64 : goal.returns-else-bits-ge64
returns-else-bits-ge64 c = none_above c.args.number c.args.bits
