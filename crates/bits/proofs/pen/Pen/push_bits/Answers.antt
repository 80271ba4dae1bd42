use Rattle.std.proofs.Common.{◌≡◌, ◌+◌, ◌*◌, ◌^◌, ◌<◌, ◌≤◌, length, sym, refl, ap, ◌∙◌, subst, mod-lt, arith, pow_pos}
use Rattle.bits.proofs.Writings.{joined, low_word, high_word, joined-lt, one_word, rest_lt, written_same, written_word}
use Rattle.bits.proofs.pen.Pen.push_bits.Goals as goal

pub invariant_of-result : goal.invariant_of-result
invariant_of-result c =
    let p = c.args.self in
    let y = c.low_bits-number.result in
    let w = c.args.wide in
    let small : y < 2 ^ w = subst (λ n. n < 2 ^ w) (sym c.low_bits-number.ensures) (mod-lt c.args.number (pow_pos w)) in
    let is = one_word y p.fill p.bits p.part p.low w small c.if-fill-lt64.true in
    record {
      part = c.if-fill-lt64.true;
      low = subst (λ n. n < 2 ^ (p.fill + w)) (sym is) (joined-lt y p.fill p.bits p.part p.low w small);
    }

pub returns-then-fill-lt64 : goal.returns-then-fill-lt64
returns-then-fill-lt64 c =
    let p = c.args.self in
    let y = c.low_bits-number.result in
    let w = c.args.wide in
    let small : y < 2 ^ w = subst (λ n. n < 2 ^ w) (sym c.low_bits-number.ensures) (mod-lt c.args.number (pow_pos w)) in
    let is = one_word y p.fill p.bits p.part p.low w small c.if-fill-lt64.true in
    record {
      written = λ start xs within was. written_same w p _ start c.args.out.now xs y was c.low_bits-number.ensures refl refl is;
      none = λ empty.
          let below : y < 2 ^ 0 = subst (λ b. y < 2 ^ b) empty small in
          let zero : y ≡ 0 = omega (arith, below) in
          let same : joined 0 p.fill p.bits ≡ p.bits = omega arith in
          (refl, is ∙ ap (λ n. joined n p.fill p.bits) zero ∙ same, omega (arith, empty), refl);
    }

pub invariant_of-result-2 : goal.invariant_of-result-2
invariant_of-result-2 c =
    let p = c.args.self in
    let y = c.low_bits-number.result in
    let w = c.args.wide in
    let small : y < 2 ^ w = subst (λ n. n < 2 ^ w) (sym c.low_bits-number.ensures) (mod-lt c.args.number (pow_pos w)) in
    record {
      part = omega (arith, p.part);
      low = rest_lt y p.fill p.bits p.part p.low w small c.if-fill-lt64.false;
    }

pub returns : goal.returns
returns c =
    let p = c.args.self in
    let y = c.low_bits-number.result in
    let w = c.args.wide in
    record {
      written = λ start xs within was.
          let filled : 64 ≤ p.fill + w = c.if-fill-lt64.false in
          let more : w * (length xs + 1) ≡ w * length xs + w = omega arith in
          let room : p.at + 8 ≤ length start = omega (arith, more, was.counted, within) in
          let put = c.put_word-at.ensures (omega (arith, was.long)) in
          written_word w p _ start c.args.out.now xs y was
          _ _ filled room (low_word y p.fill p.bits p.part p.low) put.1 put.0
          refl (high_word y p.fill p.bits p.part p.low) c.low_bits-number.ensures;
      none = λ empty. absurd (omega (arith, p.part, empty));
    }
