use Rattle.std.proofs.Common.{◌≡◌, zero, suc, ◌+◌, length, take, sym, refl, ap, ◌∙◌, arith, length-drop, length-take-le}
use Rattle.std.proofs.lemmas.List.{nil_from_length, take_rest}
use Rattle.std.proofs.lemmas.Bool.{eqb-true}
use Rattle.arrange.specs.Trees.{middle}
use Rattle.spot.specs.Codes.{codes_to}
use Rattle.spot.proofs.Coding.{some_from, codes-none, leaf_coded, cut_placed, left_placed, right_placed, left_fits, right_fits, both_coded}
use Rattle.spot.proofs.codes.+put_codes.Goals as goal

pub returns-then-is_empty : goal.returns-then-is_empty
returns-then-is_empty g t c depth deep =
    let part = c.args.part.now in
    let code = g.C.CellCode.code c.args.code.now c.args.grid.side in
    let none : length part ≡ 0 = eqb-true (length part) 0 (sym c.if-is_empty.ensures) in
    nil_from_length c.args.out.now (c.requires.long ∙ none)
    ∙ sym (ap (codes_to depth code c.args.parent) (nil_from_length part none) ∙ codes-none depth code c.args.parent)

pub returns-then-part-lt2 : goal.returns-then-part-lt2
returns-then-part-lt2 g t c depth deep =
    let part = c.args.part.now in
    leaf_coded part c.args.out.now c.number.result (some_from (length part) c.if-is_empty.ensures) c.if-part-lt2.true c.requires.long depth (g.C.CellCode.code c.args.code.now c.args.grid.side) c.args.parent deep c.number.ensures

pub put_codes-requires : goal.put_codes-requires
put_codes-requires g t c κs within =
    let part = c.args.part.now in
    let side = c.args.grid.side in
    let some = some_from (length part) c.if-is_empty.ensures in (
      omega (arith, c.decreases, length-take-le (middle (length part)) part (omega arith)),
      (
        within,
        (
          left_fits part c.args.out.now (take (middle (length part)) _) c.number.result some c.requires.long refl,
          (cut_placed part side some c.requires.placed, left_placed part side some c.requires.placed),
        ),
      ),
    )

pub put_codes-requires-2 : goal.put_codes-requires-2
put_codes-requires-2 g t c κs within =
    let part = c.args.part.now in
    let side = c.args.grid.side in
    let some = some_from (length part) c.if-is_empty.ensures in (
      omega (arith, c.decreases, ap length (take_rest part (middle (length part) + 1)), length-drop (middle (length part) + 1) part),
      (
        within,
        (
          right_fits part c.args.out.now c.put_codes.new.out c.number.result some c.requires.long c.put_codes.auto.out,
          (cut_placed part side some c.requires.placed, right_placed part side some c.requires.placed),
        ),
      ),
    )

pub returns : goal.returns
returns g t c zero deep = absurd (omega (arith, some_from (length c.args.part.now) c.if-is_empty.ensures))
returns g t c (suc depth) deep =
    let part = c.args.part.now in
    let code = g.C.CellCode.code c.args.code.now c.args.grid.side in
    let some = some_from (length part) c.if-is_empty.ensures in
    let m = middle (length part) in
    both_coded part c.args.out.now c.put_codes.new.out c.number.result some c.requires.long c.put_codes.auto.out depth code c.args.parent c.put_codes-2.new.out deep
    c.number.ensures
    (c.put_codes.ensures depth (omega (arith, length-take-le m part (omega arith))))
    (c.put_codes-2.ensures depth (omega (arith, ap length (take_rest part (m + 1)), length-drop (m + 1) part)))
