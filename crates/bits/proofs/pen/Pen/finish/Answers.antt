use Rattle.std.proofs.Common.{◌≡◌, ◌+◌, ◌-◌, ◌/◌, ◌++◌, take, drop, refl, ap, ◌∙◌, arith}
use Rattle.bits.specs.Packing.{digits}
use Rattle.bits.proofs.Words.{are_bytes}
use Rattle.bits.proofs.Writings.{written_all}
use Rattle.bits.proofs.pen.Pen.finish.Goals as goal

pub returns-then-count-out : goal.returns-then-count-out
returns-then-count-out c w start xs within was =
    let p = c.args.self in
    let out = c.args.out.now in
    let count = (p.fill + 7) / 8 in
    let written : p.at + count - p.at ≡ count = omega arith in
    let wrote = c.put_bytes.ensures ∙ ap (λ n. take p.at out ++ (digits 8 n p.bits ++ drop (p.at + count) out)) written in
    written_all w p start out xs c.put_bytes.new.out count (are_bytes c.put_bytes.new.out c.type_inv.out) was refl wrote within
