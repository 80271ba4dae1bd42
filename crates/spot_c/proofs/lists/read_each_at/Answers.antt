use Rattle.std.proofs.Common.{◌≡◌, ◌%◌, ◌^◌, ◌<◌, length, get_or, ◌∙◌, arith}
use Rattle.bits.proofs.Words.{are_bytes}
use Rattle.spot_c.proofs.Lookups.{looked_more, whole}
use Rattle.spot_c.proofs.lists.read_each_at.Goals as goal

-- the number at a place is that of the list, whole
pub loop-place-preserved : goal.loop-place-preserved
loop-place-preserved g c n wide accepted =
    let L = g.L.NumberList.meaning c.args.list.now in
    let xs = L.numbers c.args.bytes.now c.args.count.numbers in
    let place = get_or c.loop-place.places c.loop-place.place-index 0 in
    let bytes = are_bytes c.args.bytes.now c.type_inv.bytes in
    let begins = (g.met.L.NumberList.sound c.args.list.now).exactly _ _ n bytes c.args.count.few accepted in
    let here : place < length xs = omega (arith, begins.count) in
    let found = rw (c.read_at.ensures n accepted) at c.in_ok-place.ensures.cases in
    let number : c.in_ok-place.field-0 ≡ get_or xs place 0 % 2 ^ 64 = cc in
    looked_more _ _ _ _ _ _ (c.loop-place.invariant n wide accepted) (omega arith) (omega arith)
    (number ∙ whole L.reach xs place wide begins.narrow here)
