use Rattle.std.proofs.Common.{◌≡◌, ◌+◌, ◌≤◌, ◌++◌, map, length, take, drop, refl, sym, ap, ◌∙◌, subst, le_trans, rules}
use lib.ListN.{length-map}
use Rattle.std.proofs.lemmas.List.{take_all}
use Rattle.bits.specs.Packing.{room, packed}
use Rattle.bits.specs.Writing.{Written, pushed}
use Rattle.numlist.specs.Parts.{above, listed}
use Rattle.numlist.proofs.Aboves.{above-none, above_more, above-fewer, room_mono}
use Rattle.numlist.proofs.Pushes.{made_part, pushed_made}
use Rattle.numlist.proofs.above.Above.put_each.Goals as goal

pub loop-number-init : goal.loop-number-init
loop-number-init g c = record {
  callable = search rules;
  lent = refl;
  written = λ f made within.
      let w = c.args.width.bits in
      let out = c.args.out.now in
      subst (λ xs. Written w c.new-writer.result.pen out c.new-writer.result.out.now (map f xs)) (sym (above-none c.self.inside.skip)) (c.new-writer.ensures.written w);
}

pub loop-number-preserved : goal.loop-number-preserved
loop-number-preserved g c = record {
  callable = search rules;
  lent = c.push_some.ensures.lent ∙ c.loop-number.invariant.lent;
  written = λ f made within.
      let w = c.args.width.bits in
      let k = c.self.inside.skip in
      let xs = c.self.inside.numbers.now in
      let i = c.loop-number.number-index in
      let out = c.args.out.now in
      let so_far = above k (take i xs) in
      let one : pushed w c.map.result ≡ map f (listed c.part-part.result) = pushed_made w f _ _ _ made c.map.ensures.cases in
      let same : map f so_far ++ pushed w c.map.result ≡ map f (above k (take (i + 1) xs)) =
      made_part w f so_far c.part-part.result c.map.result one
      ∙ ap (map f) (ap (λ p. so_far ++ listed p) c.part-part.ensures ∙ sym (above_more k xs i c.loop-number-test.true))
      in
      let all : room w (length (above k (take (i + 1) xs))) ≤ length out = le_trans (room_mono w (above-fewer k xs (i + 1))) within in
      let long : length (above k (take (i + 1) xs)) ≡ length (map f so_far ++ pushed w c.map.result) = sym (length-map (above k (take (i + 1) xs)) f) ∙ ap length (sym same) in
      subst (Written w c.push_some.new.self.pen out c.push_some.new.self.out.now) same
      (c.push_some.ensures.written out (map f so_far) (subst (λ m. room w m ≤ length out) long all) (c.loop-number.invariant.written f made within));
}

pub returns : goal.returns
returns g c f made within =
    let w = c.args.width.bits in
    let k = c.self.inside.skip in
    let xs = c.self.inside.numbers.now in
    let out = c.args.out.now in
    let ys = c.args.self.now in
    let all = ap (above k) (take_all c.loop-number.number-index xs c.loop-number-test.false) ∙ c.self.view_is in
    let count = length-map ys f in
    let fits = subst (λ l. room w (length l) ≤ length out) (sym c.self.view_is) within in
    let written = subst (λ l. Written w c.loop-number.writer.pen out c.loop-number.writer.out.now (map f l)) all (c.loop-number.invariant.written f made fits) in
    search rules
    ∙ c.finish.ensures w out (map f ys) (subst (λ n. room w n ≤ length out) (sym count) within) written
    ∙ ap (λ n. packed w (map f ys) ++ drop (room w n) out) count
