use Rattle.std.proofs.Common.{◌≡◌, ◌+◌, ◌*◌, ◌/◌, ◌^◌, ◌<◌, sym, ◌∙◌, subst, mod-lt, arith, pow_pos}
use Rattle.bits.specs.Packing.{value}
use Rattle.numlist.specs.Cuts.{marks_at}
use Rattle.numlist.proofs.Marks.{all_bytes, number_behind}
use Rattle.numlist.proofs.places.Sections.mark_at.Goals as goal

pub returns : goal.returns
returns c =
    let bytes = c.args.self.now.bytes.now in
    let at = 8 * c.args.self.now.places.marks + c.args.i in
    let place : at ≡ 8 * marks_at c.args.self.now.width.bits c.args.self.now.count.numbers + 1 * c.args.i = omega (arith, c.args.self.now.its_marks) in
    let is = c.bit.ensures in
    record {
      mark = is ∙ number_behind 1 c.args.self.now.count.numbers bytes (marks_at c.args.self.now.width.bits c.args.self.now.count.numbers) c.args.i at (all_bytes bytes c.args.self.now.are_bytes) c.requires place;
      bit = subst (λ n. n < 2) (sym is) (mod-lt (value 8 bytes / 2 ^ at) (pow_pos 1));
    }
