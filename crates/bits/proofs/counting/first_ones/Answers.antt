use Rattle.std.proofs.Common.{◌<◌, ◌%◌, ◌^◌, ap, ◌∙◌, arith}
use Rattle.std.proofs.lemmas.Nat.{ones-le}
use Rattle.bits.proofs.Counts.{part_marks}
use Rattle.bits.proofs.counting.first_ones.Goals as goal
use Rattle.bits.proofs.counting.first_ones.Goals.{then-count-lt64, else-count-lt64}

pub returns-clause-counted : goal.returns-clause-counted
returns-clause-counted c bytes from narrow is =
    let bits = c.if-count-lt64.bits in
    elim c.if-count-lt64.branch [
      | then-count-lt64 w ↦
          part_marks bytes from c.args.count bits narrow
          (λ h. w.bits-is ∙ w.low_bits-bits.ensures ∙ ap (λ n. n % 2 ^ c.args.count) is)
          (λ h. absurd (omega arith))
      | else-count-lt64 w ↦ part_marks bytes from c.args.count bits narrow (λ h. absurd (omega arith)) (λ h. w.bits-is ∙ is)
    ]

pub returns-clause-few : goal.returns-clause-few
returns-clause-few c =
    let bits = c.if-count-lt64.bits in
    ones-le 64 bits
    (elim c.if-count-lt64.branch as (λ _. bits < 2 ^ 64) [
      | then-count-lt64 w ↦ omega arith
      | else-count-lt64 w ↦ omega arith
    ])
