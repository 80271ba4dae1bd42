use Rattle.std.proofs.Common.{◌*◌, ◌%◌, ◌^◌, ◌<◌, get_or, Ok, sym, ap, ◌∙◌, arith}
use lib.Bits.{bit_or}
use Rattle.numlist.proofs.Answering.{ok_through}
use Rattle.numlist.proofs.CutReads.{rank_inside, read_unmarked, read_marked}
use Rattle.numlist.specs.CutVerdicts.{passed}
use Rattle.numlist.proofs.cut.CutNumberList.read_at.Goals as goal

pub returns-then-mark_at-eq0 : goal.returns-then-mark_at-eq0
returns-then-mark_at-eq0 g c n accepted =
    let s = c.args.self.now in
    ap Ok (read_unmarked s.width.bits (g.L.NumberList.meaning s.below) c.args.bytes.now c.args.count.numbers c.args.i c.requires.inside
    c.low_at-low.result c.low_at-low.ensures.low c.low_at-low.type_inv (sym c.mark_at.ensures.mark ∙ c.if-mark_at-eq0.true))

pub returns-then-place-get : goal.returns-then-place-get
returns-then-place-get g c n accepted =
    let s = c.args.self.now in
    let b = s.width.bits in
    let L = g.L.NumberList.meaning s.below in
    let bytes = c.args.bytes.now in
    let p = passed b L bytes c.args.count.numbers n accepted in
    let rank = c.rank-place.ensures p.entries_same in
    let inside = rank_inside b L bytes c.args.count.numbers c.args.i c.requires.inside (λ e. c.if-mark_at-eq0.false (c.mark_at.ensures.mark ∙ e)) in
    absurd (omega (arith, rank, inside, c.if-place-get.true, c.requires.laid.2, c.get.ensures.value))

pub returns : goal.returns
returns g c n accepted =
    let s = c.args.self.now in
    let b = s.width.bits in
    let L = g.L.NumberList.meaning s.below in
    let bytes = c.args.bytes.now in
    let m = c.args.count.numbers in
    let laid = c.requires.laid in
    let p = passed b L bytes m n accepted in
    let rest = c.below.ensures in
    let rank = c.rank-place.ensures p.entries_same in
    let below = c.read_at.ensures p.taken ((λ i. L.verdict (rest i) (laid.2 i)) ∙ p.accepted_below) in
    let high = ok_through c.read_at.result c.map_err.result _ _ c.in_ok-high.high c.map_err.ensures.cases below c.in_ok-high.was
    ∙ (λ i. get_or (L.numbers (rest i) (laid.2 i)) c.rank-place.result 0 % 2 ^ 64) in
    let small : b < 64 = omega (arith, s.width.high) in
    ap (λ w. Ok (bit_or c.low_at-low.result ((c.in_ok-high.high * 2 ^ w) % 2 ^ 64))) c.bits.ensures.value
    ∙ ap Ok (read_marked b L bytes m c.args.i c.requires.inside c.low_at-low.result c.in_ok-high.high c.rank-place.result
    c.low_at-low.ensures.low c.low_at-low.ensures.small small (λ e. c.if-mark_at-eq0.false (c.mark_at.ensures.mark ∙ e)) rank high)
