use Rattle.std.proofs.Common.{◌/◌, ◌%◌, ◌^◌, ◌∙◌}
use Rattle.bits.specs.Packing.{value}
use Rattle.bits.proofs.Words.{field_of_word}
use Rattle.bits.proofs.reading.read.Goals as goal

pub returns : goal.returns
returns c =
    let at = c.args.at in
    let w = c.args.width.bits in
    c.low_bits.ensures
    ∙ (λ i. c.word.ensures i / 2 ^ (at % 8) % 2 ^ (c.bits.ensures.value i))
    ∙ field_of_word (value 8 c.args.bytes.now) at w c.args.width.high
