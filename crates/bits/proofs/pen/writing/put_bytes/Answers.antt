use Rattle.std.proofs.Common.{◌≡◌, suc, ◌+◌, ◌-◌, ◌*◌, ◌/◌, ◌%◌, ◌^◌, ◌<◌, [], ◌∷◌, ◌++◌, length, take, drop, sym, refl, ap, ◌∙◌, append_assoc, append-nil, arith, take-append-drop, shr-shr}
use Rattle.std.proofs.lemmas.List.{take_more_set, drop-set-lt, drop-drop}
use Rattle.bits.specs.Packing.{digits}
use Rattle.bits.proofs.Writings.{digits_more}
use Rattle.bits.proofs.pen.writing.put_bytes.Goals as goal

pub loop-i-init : goal.loop-i-init
unfolding digits
loop-i-init c =
    let none : c.args.from - c.args.from ≡ 0 = omega arith in
    let front = take c.args.from c.args.out.now in
    let whole : c.args.number ≡ c.args.number / 1 = omega arith in (
      sym (ap (λ k. front ++ digits 8 k c.args.number) none ∙ append-nil front),
      refl,
      whole ∙ sym (ap (λ k. c.args.number / 2 ^ (8 * k)) none),
    )

pub loop-i-preserved : goal.loop-i-preserved
loop-i-preserved c =
    let i = c.loop-i.i in
    let out = c.loop-i.out in
    let number = c.args.number in
    let k = i - c.args.from in
    let byte = c.loop-i.rest % 256 in
    let front = take c.args.from c.args.out.now in
    let next : suc k ≡ i + 1 - c.args.from = omega arith in
    let here : i < length out = omega arith in
    let before : i < i + 1 = omega arith in
    let bits : 8 * k + 8 ≡ 8 * (i + 1 - c.args.from) = omega arith in (
      take_more_set out i byte here
          ∙ ap (λ l. l ++ byte ∷ []) c.loop-i.invariant.0
          ∙ append_assoc front (digits 8 k number) (byte ∷ [])
          ∙ ap (λ n. front ++ (digits 8 k number ++ n % 256 ∷ [])) c.loop-i.invariant.2
          ∙ ap (λ l. front ++ l) (sym (digits_more 8 k number))
          ∙ ap (λ n. front ++ digits 8 n number) next,
      drop-set-lt (i + 1) out i byte before
          ∙ sym (drop-drop 1 i out)
          ∙ ap (drop 1) c.loop-i.invariant.1
          ∙ drop-drop 1 i c.args.out.now,
      ap (λ n. n / 256) c.loop-i.invariant.2 ∙ shr-shr number (8 * k) 8 ∙ ap (λ b. number / 2 ^ b) bits,
    )

pub returns : goal.returns
returns c =
    let end : c.loop-i.i ≡ c.args.to = omega arith in
    let front = take c.args.from c.args.out.now in
    sym (take-append-drop c.loop-i.i c.loop-i.out)
    ∙ (λ j. c.loop-i.invariant.0 j ++ c.loop-i.invariant.1 j)
    ∙ ap (λ i. (front ++ digits 8 (i - c.args.from) c.args.number) ++ drop i c.args.out.now) end
    ∙ append_assoc front (digits 8 (c.args.to - c.args.from) c.args.number) (drop c.args.to c.args.out.now)
