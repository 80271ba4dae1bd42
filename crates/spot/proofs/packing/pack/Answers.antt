use Rattle.std.proofs.Common.{◌+◌, ◌*◌, ◌≤◌, length, is_ok, sym, ap, ◌∙◌, subst, arith}
use Rattle.spot.specs.Spots.{meant}
use Rattle.spot.proofs.Packings.{packs_refused}
use Rattle.spot.proofs.Sheets.{held_few, placed_on}
use Rattle.spot.proofs.Spotting.{Packable, spot_fits}
use Rattle.spot.proofs.packing.pack.Goals as goal

pub returns-then-scratch-held-clause-packs : goal.returns-then-scratch-held-clause-packs
returns-then-scratch-held-clause-packs g c =
    packs_refused _ _ _ _ _ (omega (arith, c.held-held.ensures, c.if-scratch-held.true))

pub returns-clause-fits : goal.returns-clause-fits
returns-clause-fits g c enough room =
    let p : Packable (meant c.args.make.now) c.grid.result c.hits.result.now = record {
      wide = (c.args.make.now.far, c.args.make.now.near);
      laws = g.met.C.CellCode.sound c.args.make.now.code;
      sound = g.met.L.NumberList.sound c.args.make.now.list;
      few = omega (arith, ap length c.hits.ensures, held_few c.arrange.new.self);
      placed = placed_on c.arrange.new.self _ _ c.hits.ensures c.grid.ensures;
    } in
    ap is_ok c.write_spot.ensures.answer
    ∙ spot_fits _ _ _ p (length c.args.out.now)
    (subst (λ n. (n + 16) * (g.L.NumberList.meaning c.args.make.now.list).reach + 24 ≤ length c.args.out.now) (sym (ap length c.hits.ensures ∙ c.arrange.ensures.tree.long)) room)
