use Rattle.std.proofs.Common.{◌≡◌, length, drop, get_or, [], ◌∷◌, ◌++◌, ◌<◌, ◌≤◌, Some, sym, ap, ◌∙◌, eqb, arith, rules, tests, append-nil}
use Rattle.std.specs.List.{slice_split}
use Rattle.std.proofs.lemmas.List.{length_push, at_drop_all}
use Rattle.std.proofs.lemmas.Iterator.Splits.{YieldsList-from_slice_split}
use Rattle.std.proofs.lemmas.Iterator.Consumers.{YieldsList-turn, YieldsList-end}
use Rattle.line.specs.Grammar.{numbers}
use Rattle.line.specs.Reading.{words}
use Rattle.line.proofs.Numbers.{read, none_read, none_spelled, number_kept, number_past}
use Rattle.line.proofs.Splitting.{split_pieces}
use Rattle.line.proofs.words.numbers.Goals as goal
use Rattle.line.proofs.words.numbers.Goals.{After-spelled}

pub loop-word-init : goal.loop-word-init
loop-word-init c =
    (λ i. read (c.new-numbers.ensures i) (numbers (split_pieces 32 c.args.bytes.now i)))
    ∙ none_read (numbers (words c.args.bytes.now))

-- the word of this turn is the next of the parts that the split gives
turn : (c : After-spelled) → let parts = slice_split (λ b. eqb b 32) c.args.bytes.now in (length c.loop-word.yielded < length parts) × (c.in-Some.word.now ≡ get_or parts (length c.loop-word.yielded) c.in-Some.word.now)
turn c = YieldsList-turn (YieldsList-from_slice_split _ (λ b. eqb b 32) c.args.bytes.now (cc) (cc) (cc) (λ x b q k. search (rules, tests))) c.loop-word.yielded _ c.loop-word.yielded_by _ _ c.in-Some.word c.in-Some.is c.next.ensures.steps

pub returns-in_err-spelled : goal.returns-in_err-spelled
returns-in_err-spelled c =
    let at = turn (goal.at.returns-in_err-spelled c).After-spelled in
    rw c.from_residual.ensures (none_spelled c.loop-word.numbers.items _ _ c.in-Some.word.now _ c.loop-word.invariant at c.in_err-spelled.ensures)

pub loop-word-preserved : goal.loop-word-preserved
loop-word-preserved c =
    let at = turn (goal.at.loop-word-preserved c).After-spelled in
    let kept = number_kept c.loop-word.numbers.items _ _ c.in-Some.word.now _ c.loop-word.invariant at c.in_ok-spelled.field-0 c.in_ok-spelled.ensures in
    let pushed : c.try_push.new.self.items ≡ c.loop-word.numbers.items ++ c.in_ok-spelled.field-0 ∷ [] = search rules in
    (λ i. read (pushed i) (numbers (drop (length_push c.loop-word.yielded c.in-Some.word i) (slice_split (λ b. eqb b 32) c.args.bytes.now)))) ∙ kept

pub returns-in_err-ok : goal.returns-in_err-ok
returns-in_err-ok c =
    let at = turn (goal.at.returns-in_err-ok c).After-spelled in
    let full : 4 ≤ length c.loop-word.numbers.items = search rules in
    rw c.from_residual-in_err-ok.ensures (number_past c.loop-word.numbers.items _ _ c.in-Some.word.now _ c.loop-word.invariant at c.in_ok-spelled.field-0 c.in_ok-spelled.ensures full)

pub returns : goal.returns
returns c =
    let end = YieldsList-end (YieldsList-from_slice_split _ (λ b. eqb b 32) c.args.bytes.now (cc) (cc) (cc) (λ x b q k. search (rules, tests))) c.loop-word.yielded _ c.loop-word.yielded_by _ _ c.in-None.is c.next.ensures.steps in
    let kept = c.loop-word.numbers.items in
    sym c.loop-word.invariant
    ∙ at_drop_all (λ words. read kept (numbers words)) (slice_split (λ b. eqb b 32) c.args.bytes.now) (length c.loop-word.yielded) (omega (arith, end.1))
    ∙ ap Some (append-nil kept)
