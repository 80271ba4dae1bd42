use Rattle.std.proofs.Common.{◌*◌, ◌/◌, ◌%◌, ◌^◌, ◌<◌, sym, ap, ◌∙◌, subst, lt_of_lt_of_le, mod-lt, pow_pos, pow_mono}
use Rattle.bits.specs.Packing.{value}
use Rattle.bits.proofs.Digits.{get_or-digits}
use Rattle.numlist.proofs.fixed.number_at.Goals as goal

pub returns : goal.returns
returns c =
    let w = c.args.width.bits in
    let n = value 8 c.args.bytes.now in
    let is = c.read.ensures ∙ ap (λ b. n / 2 ^ (b * c.args.i) % 2 ^ w) c.bits.ensures.value in
    let small = subst (λ k. k < 2 ^ w) (sym is) (mod-lt (n / 2 ^ (w * c.args.i)) (pow_pos w)) in
    record {
      number = is ∙ sym (get_or-digits w c.args.count.numbers n c.args.i c.requires);
      small = small;
      word = lt_of_lt_of_le small (pow_mono c.args.width.high);
    }
