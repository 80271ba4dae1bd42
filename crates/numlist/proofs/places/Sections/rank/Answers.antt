use Rattle.std.proofs.Common.{◌≡◌, ◌+◌, ◌*◌, ◌/◌, ◌%◌, ◌<◌, length, get_or, take, drop, sum, sym, ap, ◌∙◌, arith}
use Rattle.bits.proofs.Packings.{length-unpacked}
use Rattle.numlist.specs.Cuts.{marks_at, marks_in}
use Rattle.numlist.specs.Parts.{entries}
use Rattle.numlist.proofs.Marks.{get_or-directory}
use Rattle.numlist.proofs.places.Sections.rank.Goals as goal

pub returns : goal.returns
returns c right =
    let b = c.args.self.now.width.bits in
    let m = c.args.self.now.count.numbers in
    let bytes = c.args.self.now.bytes.now in
    let i = c.args.i in
    let ms = marks_in b bytes m in
    let g = i / 256 in
    let long = length-unpacked 1 m (drop (marks_at b m) bytes) in
    let inside : g < entries (length ms) = omega (arith, long, c.requires) in
    let place : 256 * g + i % 256 ≡ i = omega arith in
    let entry = c.entry_at.ensures.entry ∙ ap (λ l. get_or l g 0) right ∙ get_or-directory ms g inside in
    ap (λ n. n + c.group_ones.result) entry
    ∙ sym c.group_ones.ensures.counted
    ∙ ap (λ k. sum (take k ms)) place
