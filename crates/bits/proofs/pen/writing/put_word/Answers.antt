use Rattle.std.proofs.Common.{◌≡◌, ◌+◌, ◌-◌, ◌++◌, take, refl, ap, ◌∙◌, arith}
use borrow.Rule.Slice.PartMut.{put_mid}
use Rattle.std.proofs.lemmas.List.{drop-drop}
use Rattle.bits.specs.Packing.{digits}
use Rattle.bits.proofs.Writings.{word_digits}
use Rattle.bits.proofs.pen.writing.put_word.Goals as goal

pub returns : goal.returns
returns c within =
    let at = c.args.at in
    let out = c.args.out.now in
    let eight : at + 8 - at ≡ 8 = omega arith in
    let bytes = c.copy_from_slice.ensures.after ∙ c.to_le_bytes.ensures ∙ word_digits c.args.word in
    (refl, (λ i. put_mid at (eight i) out (bytes i)) ∙ ap (λ l. take at out ++ (digits 8 8 c.args.word ++ l)) (drop-drop 8 at out))
