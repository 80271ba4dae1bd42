use Rattle.std.proofs.Common.{◌≡◌, ◌+◌, ◌*◌, ◌/◌, ◌%◌, ◌^◌, ◌<◌, sym, ◌∙◌, subst, mod-lt, arith, pow_pos}
use Rattle.bits.specs.Packing.{value}
use Rattle.numlist.specs.Cuts.{directory_at}
use Rattle.numlist.specs.Parts.{entries}
use Rattle.numlist.proofs.Marks.{all_bytes, number_behind}
use Rattle.numlist.proofs.places.Sections.entry_at.Goals as goal

pub returns : goal.returns
returns c =
    let bytes = c.args.self.now.bytes.now in
    let from = directory_at c.args.self.now.width.bits c.args.self.now.count.numbers in
    let at = 8 * c.args.self.now.places.directory + 32 * c.args.group in
    let place : at ≡ 8 * from + 32 * c.args.group = omega (arith, c.args.self.now.its_directory) in
    let is : c.read.result ≡ value 8 bytes / 2 ^ at % 2 ^ 32 = c.read.ensures in
    record {
      entry = is ∙ number_behind 32 (entries c.args.self.now.count.numbers) bytes from c.args.group at (all_bytes bytes c.args.self.now.are_bytes) c.requires place;
      small = subst (λ n. n < 2 ^ 32) (sym is) (mod-lt (value 8 bytes / 2 ^ at) (pow_pos 32));
    }
