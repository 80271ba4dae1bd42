use Rattle.std.proofs.Common.{◌≡◌, rules}
use Rattle.bits.proofs.Writings.{width_of, written_some}
use Rattle.bits.proofs.pen.Pen.push_some.Goals as goal

pub returns : goal.returns
returns c start xs within was =
    let wide : c.map_or-wide.result ≡ width_of c.args.width.bits c.args.number = search rules in
    written_some c.args.width.bits c.map_or-wide.result c.unwrap_or.result c.args.number c.args.self c.push_bits.result start c.args.out.now c.push_bits.new.out xs
    wide c.unwrap_or.ensures (c.push_bits.ensures.written start xs) c.push_bits.ensures.none within was
