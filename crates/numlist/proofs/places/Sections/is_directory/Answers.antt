use Rattle.std.proofs.Common.{◌≡◌, ◌+◌, ◌*◌, ◌<◌, length, get_or, take, drop, sum, sym, ap, ◌∙◌, ⊎_elim, arith, below_more}
use Rattle.std.specs.Str.{bytes_eq}
use Rattle.std.proofs.lemmas.Slice.Eq.{bytes_eq-Decides}
use Rattle.std.proofs.lemmas.List.{ext_get_or}
use Rattle.std.proofs.lemmas.List.Sums.{sum_by-take-le}
use Rattle.std.proofs.lemmas.Bool.{cases_Bool}
use Rattle.bits.proofs.Packings.{length-unpacked, narrow-unpacked}
use Rattle.numlist.specs.Cuts.{marks_at, directory_at, marks_in, directory_in}
use Rattle.numlist.specs.Parts.{entries, directory}
use Rattle.numlist.specs.Directories.{length-directory, sum-narrow}
use Rattle.numlist.proofs.Marks.{get_or-directory, next_group}
use Rattle.numlist.proofs.places.Sections.is_directory.Goals as goal

pub returns-then-entry_at-ones : goal.returns-then-entry_at-ones
returns-then-entry_at-ones c =
    let b = c.args.self.now.width.bits in
    let m = c.args.self.now.count.numbers in
    let bytes = c.args.self.now.bytes.now in
    let ms = marks_in b bytes m in
    let g = c.loop-group.group in
    let inside : g < entries (length ms) = omega (arith, length-unpacked 1 m (drop (marks_at b m) bytes)) in
    let here = get_or-directory ms g inside in
    ⊎_elim
    (λ e. absurd (c.if-entry_at-ones.true
    (c.entry_at.ensures.entry ∙ ap (λ l. get_or l g 0) ((bytes_eq-Decides (directory_in b bytes m) (directory ms)).0 e) ∙ here ∙ sym c.loop-group.invariant.0)))
    (λ e. sym e)
    (cases_Bool (bytes_eq (directory_in b bytes m) (directory ms)))

pub loop-group-preserved : goal.loop-group-preserved
loop-group-preserved c =
    let b = c.args.self.now.width.bits in
    let m = c.args.self.now.count.numbers in
    let bytes = c.args.self.now.bytes.now in
    let ms = marks_in b bytes m in
    let g = c.loop-group.group in
    let long = length-unpacked 1 m (drop (marks_at b m) bytes) in
    let inside : g < entries (length ms) = omega (arith, long) in
    let counted : c.loop-group.ones + c.group_ones-ones.result ≡ sum (take (256 * (g + 1)) ms) =
    ap (λ n. n + c.group_ones-ones.result) c.loop-group.invariant.0
    ∙ sym c.group_ones-ones.ensures.counted
    ∙ ap sum (next_group ms m g c.min-n.result long c.min-n.ensures) in
    let here = sym c.entry_at.ensures.entry ∙ c.if-entry_at-ones.false ∙ c.loop-group.invariant.0 ∙ sym (get_or-directory ms g inside) in (
      counted,
      below_more _ _ c.loop-group.invariant.1 here,
      omega (arith, counted, sum_by-take-le (λ x. x) ms (256 * (g + 1)), sum-narrow ms (narrow-unpacked 1 m (drop (marks_at b m) bytes)), long),
    )

pub returns : goal.returns
returns c =
    let b = c.args.self.now.width.bits in
    let m = c.args.self.now.count.numbers in
    let bytes = c.args.self.now.bytes.now in
    let ms = marks_in b bytes m in
    let long = length-unpacked 32 (entries m) (drop (directory_at b m) bytes) in
    let same = long ∙ sym (length-directory ms ∙ ap entries (length-unpacked 1 m (drop (marks_at b m) bytes))) in
    sym ((bytes_eq-Decides (directory_in b bytes m) (directory ms)).1
    (ext_get_or 0 (directory_in b bytes m) (directory ms) same (λ k h. c.loop-group.invariant.1 k (omega (arith, long)))))
