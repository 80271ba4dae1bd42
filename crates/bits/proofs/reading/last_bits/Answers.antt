use Rattle.std.proofs.Common.{◌/◌, ◌%◌, ◌^◌, sym, ap, ◌∙◌, arith}
use Rattle.bits.proofs.Words.{are_bytes, no_fill, fill_of_byte}
use Rattle.bits.proofs.reading.last_bits.Goals as goal

pub returns-then-bits-eq0 : goal.returns-then-bits-eq0
returns-then-bits-eq0 c =
    let bytes = c.args.bytes.now in
    sym (no_fill bytes c.args.bits (are_bytes bytes c.type_inv.bytes) c.if-bits-eq0.true)

pub returns : goal.returns
returns c =
    let bytes = c.args.bytes.now in
    ap (λ n. n % 2 ^ 8 / 2 ^ (c.args.bits % 8)) c.word-word.ensures
    ∙ fill_of_byte bytes c.args.bits (are_bytes bytes c.type_inv.bytes) (omega arith)
