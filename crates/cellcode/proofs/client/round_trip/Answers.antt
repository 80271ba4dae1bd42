use Rattle.cellcode.specs.Codes.{ComesBack}
use Rattle.cellcode.proofs.Codes.{decodes_again}
use Rattle.cellcode.specs.Ons.{from_to_allowed}
use Rattle.cellcode.proofs.client.round_trip.Given as given
use Rattle.cellcode.proofs.client.round_trip.Goals as goal
use Rattle.cellcode.proofs.client.round_trip.Goals.{After-encode}

-- what is encoded is decoded again, by the laws alone
comes_back : (g : given.Over) (c : After-encode g) → ComesBack (g.C.CellCode.code c.args.codes.now) c.args.grid.side c.args.parent c.args.cell
comes_back g c n found sent =
    let laws = g.met.C.CellCode.sound c.args.codes.now in
    let grid = c.args.grid in
    decodes_again laws grid.side n _ _ found (from_to_allowed _ grid.low grid.high) sent.0 sent.1 sent.2

pub returns : goal.returns
returns g c =
    let law = comes_back g (goal.at.returns g c).After-encode in
    let sent = c.in_ok-number.ensures in
    record { result = (sent.0, sent.1, law _ _ sent c.decode.ensures); law = law }
