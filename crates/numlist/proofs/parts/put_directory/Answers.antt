use Rattle.std.proofs.Common.{◌≡◌, ◌+◌, ◌*◌, ◌<◌, ◌≤◌, [], ◌∷◌, ◌++◌, length, get_or, take, drop, sum, refl, sym, ap, ◌∙◌, subst, arith, rules}
use Rattle.std.proofs.lemmas.List.{take_all, take_more, length-take-le}
use Rattle.std.proofs.lemmas.List.Sums.{sum_by-take-le}
use Rattle.bits.specs.Packing.{unpacked, room, packed}
use Rattle.bits.specs.Writing.{Written}
use Rattle.bits.proofs.Packings.{length-unpacked, narrow-unpacked}
use Rattle.bits.proofs.Words.{are_bytes}
use Rattle.numlist.specs.Parts.{entries, directory}
use Rattle.numlist.specs.Directories.{length-directory, sum-narrow}
use Rattle.numlist.proofs.Marks.{get_or-directory, group_sum, next_group}
use Rattle.numlist.proofs.parts.put_directory.Goals as goal

pub loop-group-init : goal.loop-group-init
loop-group-init c = record { counted = refl; lent = refl; written = λ within. c.new-writer.ensures.written 32 }

pub overflow_cast-before : goal.overflow_cast-before
overflow_cast-before c =
    let m = c.args.count.numbers in
    let ms = unpacked 1 m c.args.marks.now in
    omega (arith, c.loop-group.invariant.counted, sum_by-take-le (λ x. x) ms (256 * c.loop-group.group), sum-narrow ms (narrow-unpacked 1 m c.args.marks.now), length-unpacked 1 m c.args.marks.now)

-- the marks of one group more
counted : (c : goal.After-ones-before) → c.loop-group.before + c.ones-before.result ≡ sum (take (256 * (c.loop-group.group + 1)) (unpacked 1 c.args.count.numbers c.args.marks.now))
counted c =
    let m = c.args.count.numbers in
    let bytes = c.args.marks.now in
    let ms = unpacked 1 m bytes in
    let g = c.loop-group.group in
    let n = c.min.result in
    let within : 256 * g + n ≤ m = omega arith in
    (λ i. c.loop-group.invariant.counted i + c.ones-before.ensures i)
    ∙ sym (group_sum m bytes g n (are_bytes bytes c.type_inv.marks) within)
    ∙ ap sum (next_group ms m g n (length-unpacked 1 m bytes) c.min.ensures)

pub overflow_add-before : goal.overflow_add-before
overflow_add-before c =
    let m = c.args.count.numbers in
    let ms = unpacked 1 m c.args.marks.now in
    omega (arith, counted c, sum_by-take-le (λ x. x) ms (256 * (c.loop-group.group + 1)), sum-narrow ms (narrow-unpacked 1 m c.args.marks.now), length-unpacked 1 m c.args.marks.now)

pub loop-group-preserved : goal.loop-group-preserved
loop-group-preserved c = record {
  counted = counted c;
  lent = c.push_count.ensures.lent ∙ c.loop-group.invariant.lent;
  written = λ within.
      let m = c.args.count.numbers in
      let ms = unpacked 1 m c.args.marks.now in
      let g = c.loop-group.group in
      let out = c.args.out.now in
      let entry = directory ms in
      let long : length entry ≡ entries m = length-directory ms ∙ ap entries (length-unpacked 1 m c.args.marks.now) in
      let inside : g < length entry = omega (arith, long) in
      let here : g < entries (length ms) = omega (arith, length-unpacked 1 m c.args.marks.now) in
      let is : c.loop-group.before ≡ get_or entry g 0 = c.loop-group.invariant.counted ∙ sym (get_or-directory ms g here) in
      let fits : room 32 (length (take g entry) + 1) ≤ length out = omega (arith, long, within, length-take-le g entry (omega arith)) in
      subst (Written 32 c.push_count.new.self.pen out c.push_count.new.self.out.now) (ap (λ n. take g entry ++ n ∷ []) is ∙ sym (take_more entry g 0 inside))
      (c.push_count.ensures.written out (take g entry) fits (c.loop-group.invariant.written within));
}

pub returns : goal.returns
returns c within =
    let m = c.args.count.numbers in
    let ms = unpacked 1 m c.args.marks.now in
    let out = c.args.out.now in
    let entry = directory ms in
    let long : length entry ≡ entries m = length-directory ms ∙ ap entries (length-unpacked 1 m c.args.marks.now) in
    let whole : room 32 (length entry) ≡ 4 * entries m = omega (arith, long) in
    let all : take c.loop-group.group entry ≡ entry = take_all c.loop-group.group entry (omega (arith, long)) in
    let written = subst (Written 32 c.loop-group.writer.pen out c.loop-group.writer.out.now) all (c.loop-group.invariant.written within) in
    search rules
    ∙ c.finish.ensures 32 out entry (subst (λ n. n ≤ length out) (sym whole) within) written
    ∙ ap (λ n. packed 32 entry ++ drop n out) whole
