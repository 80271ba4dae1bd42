use Rattle.std.proofs.Common.{◌+◌, ◌*◌, ◌/◌, ◌^◌, ◌&&◌, ltb, take, drop, sym, ap, ◌∙◌, one-mul}
use Rattle.std.proofs.lemmas.List.{take_rest}
use Rattle.bits.specs.Packing.{value}
use Rattle.numlist.specs.Fixed.{filled}
use Rattle.numlist.specs.Cuts.{marks_at}
use Rattle.numlist.proofs.places.Sections.are_filled.Goals as goal

pub returns-then-is_filled : goal.returns-then-is_filled
returns-then-is_filled c =
    let b = c.args.self.now.width.bits in
    let m = c.args.self.now.count.numbers in
    let bytes = c.args.self.now.bytes.now in
    let rest = take_rest bytes c.args.self.now.places.marks ∙ ap (λ k. drop k bytes) c.args.self.now.its_marks in
    let first = c.if-is_filled.ensures ∙ ap (λ w. ltb (value 8 (take ((w * m + 7) / 8) bytes)) (2 ^ (w * m))) c.bits.ensures.value in
    c.is_filled-then-is_filled.ensures
    ∙ (λ i. ltb (value 8 (take ((sym (one-mul m) i + 7) / 8) (rest i))) (2 ^ (sym (one-mul m) i)))
    ∙ ap (λ t. t && filled 1 m (drop (marks_at b m) bytes)) first
