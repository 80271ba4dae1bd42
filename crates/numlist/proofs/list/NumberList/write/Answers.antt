use Rattle.std.proofs.Common.{◌≡◌, ◌≤◌, ◌++◌, drop, true, false, length, Ok, sym, refl, ap, ◌∙◌, subst, arith}
use Rattle.bits.specs.Packing.{Narrow}
use Rattle.numlist.specs.Calls.{narrow}
use Rattle.numlist.proofs.Aboves.{narrow-min, narrow-true, are_words}
use Rattle.numlist.proofs.Answering.{write_too_large, write_no_room, write_fits}
use Rattle.numlist.proofs.list.NumberList.write.Goals as goal

pub returns-then-not-is_narrow : goal.returns-then-not-is_narrow
returns-then-not-is_narrow g c =
    let taken = rw c.in_ok-all.ensures.ok_part at c.new.ensures in
    let L = g.Self.NumberList.meaning c.args.self.now in
    let xs = c.args.numbers.now in
    let wide : narrow L.reach xs ≡ false =
    sym (narrow-min L.reach xs (are_words xs c.type_inv.numbers)) ∙ ap (λ w. narrow w xs) (sym c.reach.ensures) ∙ sym c.if-not-is_narrow.ensures in
    record { answer = write_too_large L xs (length c.args.out.now) taken.1 wide; bytes = refl }

pub returns-then-size-out : goal.returns-then-size-out
returns-then-size-out g c =
    let taken = rw c.in_ok-all.ensures.ok_part at c.new.ensures in
    let L = g.Self.NumberList.meaning c.args.self.now in
    let xs = c.args.numbers.now in
    let small : narrow L.reach xs ≡ true =
    sym (narrow-min L.reach xs (are_words xs c.type_inv.numbers)) ∙ ap (λ w. narrow w xs) (sym c.reach.ensures) ∙ sym c.if-not-is_narrow.ensures in
    let all = ap (λ l. length (L.string l)) taken.0 in
    record { answer = write_no_room L xs (length c.args.out.now) taken.1 small (omega (arith, c.size-size.ensures, all)); bytes = refl }

pub returns : goal.returns
returns g c =
    let out = c.args.out.now in
    let taken = rw c.in_ok-all.ensures.ok_part at c.new.ensures in
    let L = g.Self.NumberList.meaning c.args.self.now in
    let xs = c.args.numbers.now in
    let small : narrow L.reach xs ≡ true =
    sym (narrow-min L.reach xs (are_words xs c.type_inv.numbers)) ∙ ap (λ w. narrow w xs) (sym c.reach.ensures) ∙ sym c.if-not-is_narrow.ensures in
    let all = ap (λ l. length (L.string l)) taken.0 in
    let short : length (L.string xs) ≤ length c.args.out.now = omega (arith, c.size-size.ensures, all) in
    let size : c.size-size.result ≡ length (L.string xs) = omega (arith, c.size-size.ensures, all) in
    record {
      answer = ap Ok size ∙ write_fits L xs (length c.args.out.now) taken.1 small short;
      bytes =
          subst (λ l. Narrow L.reach l → length (L.string l) ≤ length out → c.put.new.out ≡ L.string l ++ drop (length (L.string l)) out)
          taken.0 c.put.ensures (narrow-true L.reach xs small) short;
    }
