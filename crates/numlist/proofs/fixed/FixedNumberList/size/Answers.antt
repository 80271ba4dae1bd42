use Rattle.std.proofs.Common.{◌≡◌, ◌*◌, ◌≤◌, length, sym, ap, ◌∙◌, mul-le-mul_right, arith}
use Rattle.bits.specs.Packing.{room, packed}
use Rattle.bits.proofs.Packings.{length-packed}
use Rattle.numlist.specs.Lists.{most}
use Rattle.numlist.proofs.fixed.FixedNumberList.size.Goals as goal

pub returns : goal.returns
returns c =
    let w = c.args.self.now.width.bits in
    let xs = c.args.numbers.now in
    let few : length xs ≤ most = omega (arith, c.count.ensures, c.count.result.few) in
    let wide : w * length xs ≤ 48 * length xs = mul-le-mul_right (length xs) c.args.self.now.width.high in
    let is : c.room.result ≡ length (packed w xs) = c.room.ensures ∙ ap (room w) c.count.ensures ∙ sym (length-packed w xs) in
    omega (arith, is, length-packed w xs)
