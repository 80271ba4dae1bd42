use Rattle.std.proofs.Common.{◌≡◌, drop}
use Rattle.sheet.specs.Counts.{counts_from}
use Rattle.sheet.specs.Memory.{places, hits, tally}
use Rattle.spot_c.specs.Spots.{puts, first_refusal}
use Rattle.spot_c.proofs.packs.put_each.Given as goal

-- what the hits that are left come to is what all come to
abbrev pub invariant-loop-hit : goal.invariant-loop-hit
invariant-loop-hit l =
    let side = l.initial.sheet.grid.side in
    let start = l.initial.sheet.lent in
    let now = l.sheet.lent in
    let left = drop l.hit-index l.hits in
    record {
      first :
          first_refusal side (places start) (tally (hits start)) (puts l.hits)
          ≡ first_refusal side (places start) (tally (hits now)) (puts left);
      counts :
          counts_from side (places start) (tally (hits start)) (puts l.hits)
          ≡ counts_from side (places start) (tally (hits now)) (puts left);
      places : places now ≡ places start;
      grid : l.sheet.grid ≡ l.initial.sheet.grid;
    }
