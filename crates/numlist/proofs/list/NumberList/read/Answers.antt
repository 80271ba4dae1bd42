use Rattle.std.proofs.Common.{rules, ◌≡◌, ◌%◌, ◌^◌, ◌<◌, length, get_or, Ok, sym, ap, ◌∙◌, subst, lt_of_lt_of_le, mod-eq_of_lt, pow_mono}
use Rattle.std.proofs.ByRecursion.{All-get_or}
use Rattle.bits.proofs.Words.{are_bytes}
use Rattle.numlist.proofs.Answering.{ok-number}
use Rattle.numlist.proofs.list.NumberList.read.Goals as goal

-- a list of at most 64 bits gives the number itself
pub returns-clause-number : goal.returns-clause-number
returns-clause-number g c = λ n few inside wide accepted.
    let L = g.Self.NumberList.meaning c.args.self.now in
    let bytes = c.args.bytes.now in
    let counted : c.in_ok-count.count.numbers ≡ c.args.m = search rules in
    let begins = (g.met.Self.NumberList.sound c.args.self.now).exactly bytes c.args.m n (are_bytes bytes c.type_inv.bytes) few accepted in
    let x = get_or (L.numbers bytes c.args.m) c.args.i 0 in
    let here : c.args.i < length (L.numbers bytes c.args.m) = subst (λ k. c.args.i < k) (sym begins.count) inside in
    let narrow = All-get_or (λ y. y < 2 ^ L.reach) (L.numbers bytes c.args.m) c.args.i 0 here begins.narrow in
    let small : x < 2 ^ 64 = lt_of_lt_of_le narrow (pow_mono wide) in
    let read = c.in_ok-read_at.ensures n (ap (L.verdict bytes) counted ∙ accepted) in
    ap Ok
    (ok-number c.in_ok-read_at.field-0 (get_or (L.numbers bytes c.in_ok-count.count.numbers) c.args.i 0 % 2 ^ 64) read
    ∙ ap (λ k. get_or (L.numbers bytes k) c.args.i 0 % 2 ^ 64) counted
    ∙ mod-eq_of_lt small)
