use Rattle.std.proofs.Common.{◌+◌, get_or, drop, sym, ap, ◌∙◌, arith}
use Rattle.std.proofs.lemmas.Bool.{eqb-false}
use Rattle.std.proofs.lemmas.List.{at_drop_more, at_drop_all}
use Rattle.line.specs.Grammar.{followed}
use Rattle.line.proofs.Digits.{spelled_some, followed_end, followed_more, followed_none}
use Rattle.line.proofs.words.spelled.Goals as goal

pub loop-byte-init : goal.loop-byte-init
loop-byte-init c = record {
  small = omega arith;
  so_far = spelled_some c.args.word.now (omega (arith, eqb-false _ 0 (sym c.if-is_empty.ensures)));
}

-- the byte is no digit, or makes the number too great
pub returns-in_err-number : goal.returns-in_err-number
returns-in_err-number c =
    let word = c.args.word.now in
    let i = c.loop-byte.byte-index in
    let n = c.loop-byte.number in
    c.from_residual.ensures
    ∙ sym (at_drop_more (followed n) word i 0 (omega arith) ∙ followed_none n (get_or word i 0) (drop (i + 1) word) c.in_err-number.ensures)
    ∙ c.loop-byte.invariant.so_far

-- a digit more
pub loop-byte-preserved : goal.loop-byte-preserved
loop-byte-preserved c =
    let word = c.args.word.now in
    let i = c.loop-byte.byte-index in
    let n = c.loop-byte.number in
    let step = c.in_ok-number.ensures in
    record {
      small = omega arith;
      so_far =
          ap (λ m. followed m (drop (i + 1) word)) step.1
          ∙ sym (at_drop_more (followed n) word i 0 (omega arith) ∙ followed_more n (get_or word i 0) (drop (i + 1) word) step.0.0)
          ∙ c.loop-byte.invariant.so_far;
    }

pub returns : goal.returns
returns c =
    let n = c.loop-byte.number in
    sym (at_drop_all (followed n) c.args.word.now c.loop-byte.byte-index (omega arith) ∙ followed_end n c.loop-byte.invariant.small)
    ∙ c.loop-byte.invariant.so_far
