use Rattle.std.proofs.Common.{◌≡◌, true, false, eqb, arith, rules, tests}
use Rattle.std.proofs.lemmas.Iterator.{YieldsList-from_slice, IsFirst-from_position}
use Rattle.std.proofs.lemmas.Grind.{common_steps}
use Rattle.line.proofs.Splitting.{first_line}
use Rattle.line.proofs.lines.first_line.Goals as goal

pub returns-in-Some : goal.returns-in-Some
returns-in-Some c =
    let found = IsFirst-from_position _ _ _ (λ b. eqb b 10 ≡ true) (λ b. eqb b 10 ≡ false) c.position.ensures.ran (YieldsList-from_slice c.args.input.now cc) (λ x q k. search (rules, tests)) (λ x q k. search (rules, tests)) in
    let cut = first_line c.args.input.now c.position.result found in
    let e = rw c.in-Some.is at cut in
    λ some. grind (arith, common_steps)

pub returns-in-None : goal.returns-in-None
returns-in-None c =
    let found = IsFirst-from_position _ _ _ (λ b. eqb b 10 ≡ true) (λ b. eqb b 10 ≡ false) c.position.ensures.ran (YieldsList-from_slice c.args.input.now cc) (λ x q k. search (rules, tests)) (λ x q k. search (rules, tests)) in
    let cut = first_line c.args.input.now c.position.result found in
    rw c.in-None.is at cut
