use Rattle.std.proofs.Common.{◌≡◌, ◌+◌, ◌*◌, ◌^◌, ◌<◌, take, drop, sum, sym, ap, ◌∙◌, arith}
use Rattle.std.proofs.ByRecursion.{All-drop}
use Rattle.std.proofs.lemmas.List.{drop-drop}
use Rattle.bits.specs.Packing.{value, unpacked}
use Rattle.bits.proofs.Counts.{marks-le}
use Rattle.numlist.specs.Cuts.{marks_at, marks_in}
use Rattle.numlist.proofs.Marks.{all_bytes, group_sum}
use Rattle.numlist.proofs.places.Sections.group_ones.Goals as goal

pub returns : goal.returns
returns c =
    let bytes = c.args.self.now.bytes.now in
    let from = marks_at c.args.self.now.width.bits c.args.self.now.count.numbers in
    let g = c.args.group in
    let n = c.args.n in
    let place : c.args.self.now.places.marks + 32 * g ≡ from + 32 * g = omega (arith, c.args.self.now.its_marks) in
    let is = c.few_ones.ensures ∙ ap (λ k. sum (unpacked 1 n (drop k bytes))) place ∙ ap (λ l. sum (unpacked 1 n l)) (sym (drop-drop (32 * g) from bytes)) in
    let narrow = All-drop (λ x. x < 2 ^ 8) from bytes (all_bytes bytes c.args.self.now.are_bytes) in
    record {
      counted =
          group_sum c.args.self.now.count.numbers (drop from bytes) g n narrow c.requires
          ∙ ap (λ k. sum (take (256 * g) (marks_in c.args.self.now.width.bits bytes c.args.self.now.count.numbers)) + k) (sym is);
      few = omega (arith, c.few_ones.ensures, marks-le n (value 8 (drop (c.args.self.now.places.marks + 32 * g) bytes)));
    }
