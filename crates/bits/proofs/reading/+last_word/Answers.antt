use Rattle.std.proofs.Common.{◌≡◌, ◌+◌, ◌*◌, ◌<◌, ◌≤◌, length, get_or, drop, sym, ap, ◌∙◌, arith}
use Rattle.std.proofs.lemmas.List.{drop_all}
use Rattle.bits.specs.Packing.{value}
use Rattle.bits.proofs.Words.{are_bytes, value_few, value-more, few_bytes}
use Rattle.bits.proofs.reading.+last_word.Goals as goal

pub returns-then-from-bytes : goal.returns-then-from-bytes
unfolding value
returns-then-from-bytes t c =
    let bytes = c.args.bytes.now in
    let past : length bytes ≤ c.args.from = c.if-from-bytes.true in
    sym (ap (value 8) (drop_all c.args.from bytes past)) ∙ few_bytes bytes c.args.from (are_bytes bytes c.type_inv.bytes) c.requires

pub overflow_mul-result : goal.overflow_mul-result
overflow_mul-result t c =
    let bytes = c.args.bytes.now in
    let narrow = are_bytes bytes c.type_inv.bytes in
    let is = few_bytes bytes (c.args.from + 1) narrow (omega (arith, c.requires)) in
    let small = value_few 7 bytes (c.args.from + 1) narrow (omega (arith, c.requires)) in
    omega (arith, c.last_word.ensures, is, small)

pub overflow_add-result : goal.overflow_add-result
overflow_add-result t c =
    let bytes = c.args.bytes.now in
    let narrow = are_bytes bytes c.type_inv.bytes in
    let is = few_bytes bytes (c.args.from + 1) narrow (omega (arith, c.requires)) in
    let small = value_few 7 bytes (c.args.from + 1) narrow (omega (arith, c.requires)) in
    omega (arith, c.last_word.ensures, is, small, c.type_inv.bytes c.args.from)

pub returns : goal.returns
returns t c =
    let bytes = c.args.bytes.now in
    let narrow = are_bytes bytes c.type_inv.bytes in
    let inside : c.args.from < length bytes = c.if-from-bytes.false in
    let is = few_bytes bytes (c.args.from + 1) narrow (omega (arith, c.requires)) in
    let same : c.last_word.result ≡ value 8 (drop (c.args.from + 1) bytes) = c.last_word.ensures ∙ sym is in
    ap (λ n. c.last_word.result * 256 + n) c.from.ensures
    ∙ ap (λ n. n * 256 + get_or bytes c.args.from 0) same
    ∙ sym (value-more 8 bytes c.args.from (c.args.from + 1) (omega arith) inside)
    ∙ few_bytes bytes c.args.from narrow c.requires
