use Rattle.std.proofs.Common.{length, drop, Ok, ap, ◌∙◌}
use Rattle.numlist.specs.Calls.{all_back}
use Rattle.numlist.proofs.Trips.{written_fits}
use Rattle.numlist.proofs.trip.comes_back.Goals as goal

pub returns-then-is_open-clause-answer : goal.returns-then-is_open-clause-answer
returns-then-is_open-clause-answer g c wide =
    let L = g.L.NumberList.meaning c.args.list.now in
    let xs = c.args.numbers.now in
    let out = c.args.out.now in
    let written = c.in_ok-write.ensures in
    let fits = written_fits L xs (length out) _ written.answer in
    ap Ok (c.all_there.ensures (drop (length (L.string xs)) out) wide fits.1 fits.0 written.bytes) ∙ ap all_back written.answer

pub returns-else-is_open-clause-answer : goal.returns-else-is_open-clause-answer
returns-else-is_open-clause-answer g c wide =
    let L = g.L.NumberList.meaning c.args.list.now in
    let xs = c.args.numbers.now in
    let out = c.args.out.now in
    let written = c.in_ok-write.ensures in
    let fits = written_fits L xs (length out) _ written.answer in
    ap Ok (c.is_open.ensures (drop (length (L.string xs)) out) wide fits.1 fits.0 written.bytes) ∙ ap all_back written.answer
