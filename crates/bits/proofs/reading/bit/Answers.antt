use Rattle.std.proofs.Common.{◌≡◌, ◌/◌, ◌%◌, ◌^◌, get_or, ap, ◌∙◌, rules}
use Rattle.bits.specs.Packing.{value}
use Rattle.bits.proofs.Words.{are_bytes, byte_at, bit_of_byte}
use Rattle.bits.proofs.reading.bit.Goals as goal

pub returns : goal.returns
returns c =
    let bytes = c.args.bytes.now in
    let at = c.args.at in
    let byte : c.unwrap_or-byte.result ≡ get_or bytes (at / 8) 0 = search rules in
    let kept : c.low_bits.result ≡ c.from.result / 2 ^ (at % 8) % 2 = search rules in
    kept
    ∙ ap (λ n. n / 2 ^ (at % 8) % 2) (c.from.ensures ∙ byte ∙ byte_at bytes (at / 8) (are_bytes bytes c.type_inv.bytes))
    ∙ bit_of_byte (value 8 bytes) at
