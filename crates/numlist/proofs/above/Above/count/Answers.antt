use Rattle.std.proofs.Common.{◌≡◌, ℕ, ◌+◌, ◌≤◌, List, length, get_or, take, sym, ap, ◌∙◌, arith, length-append}
use mir.Val.{bool_byte}
use Rattle.std.specs.Option.{is_some}
use Rattle.std.proofs.lemmas.List.{take_all}
use Rattle.numlist.specs.Parts.{above, part_of, listed}
use Rattle.numlist.proofs.Aboves.{above_more, above-fewer, above_few}
use Rattle.numlist.proofs.Pushes.{counted_part}
use Rattle.numlist.proofs.above.Above.count.Goals as goal

step :
    (c : goal.After-from-count)
    → c.loop-number.count + c.from-count.result ≡ length (above c.self.inside.skip (take (c.loop-number.number-index + 1) c.self.inside.numbers.now))
step c =
    let i = c.loop-number.number-index in
    let xs = c.self.inside.numbers.now in
    let k = c.self.inside.skip in
    let one : c.from-count.result ≡ length (listed (part_of k (get_or xs i 0))) =
    c.from-count.ensures
    ∙ ap bool_byte c.is_some.ensures
    ∙ ap (λ o. bool_byte (is_some o)) c.part.ensures
    ∙ counted_part (part_of k (get_or xs i 0))
    in
    (λ j. c.loop-number.invariant j + one j)
    ∙ sym (ap length (above_more k xs i c.loop-number-test.true) ∙ length-append (above k (take i xs)) (listed (part_of k (get_or xs i 0))))

pub overflow_add-count : goal.overflow_add-count
overflow_add-count c =
    let xs = c.self.inside.numbers.now in
    let k = c.self.inside.skip in
    omega (arith, step c, above-fewer k xs (c.loop-number.number-index + 1), above_few k xs, c.self.invariant.1)

pub loop-number-preserved : goal.loop-number-preserved
loop-number-preserved c = step c

-- all numbers are counted
all_counted : (n k i : ℕ) (xs : List ℕ) → n ≡ length (above k (take i xs)) → length xs ≤ i → n ≡ length (above k xs)
all_counted n k i xs counted done = counted ∙ ap (λ l. length (above k l)) (take_all i xs done)

pub invariant_of-result : goal.invariant_of-result
invariant_of-result c =
    let all = all_counted _ c.self.inside.skip _ c.self.inside.numbers.now c.loop-number.invariant c.loop-number-test.false in
    omega (arith, all, above_few c.self.inside.skip c.self.inside.numbers.now, c.self.invariant.1)

pub returns : goal.returns
returns c =
    all_counted _ c.self.inside.skip _ c.self.inside.numbers.now c.loop-number.invariant c.loop-number-test.false
    ∙ ap length c.self.view_is
