use Rattle.std.proofs.Common.{[], ◌∷◌, ◌++◌, drop, ap, ◌∙◌, arith, rules}
use Rattle.bits.specs.Packing.{packed}
use Rattle.spot.proofs.trailer.Trailer.put.Goals as goal

-- six numbers, one after another; the lender of the bytes gets back what the writer leaves there
pub returns : goal.returns
returns c =
    let t = c.args.self in
    let start = c.args.out.now in
    let none = c.new-writer.ensures.written 32 in
    let one = c.push_count.ensures.written start _ (omega arith) none in
    let two = c.push_count-2.ensures.written start _ (omega arith) one in
    let three = c.push_count-3.ensures.written start _ (omega arith) two in
    let four = c.push_count-4.ensures.written start _ (omega arith) three in
    let five = c.push_count-5.ensures.written start _ (omega arith) four in
    let six = c.push_count-6.ensures.written start _ (omega arith) five in
    search rules
    ∙ c.finish.ensures 32 start _ (omega arith) six
    ∙ ap (λ n. packed 32 (t.length ∷ t.hits ∷ t.root.x ∷ t.root.y ∷ t.side ∷ n ∷ []) ++ drop 24 start) c.tag.ensures
