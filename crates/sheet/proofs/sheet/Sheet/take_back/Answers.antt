use Rattle.std.proofs.Common.{◌≡◌, ◌∙◌, Some, None, Err, sym, refl, arith}
use Rattle.std.proofs.lemmas.Grind.{common_steps}
use Rattle.sheet.specs.declared.refusal.Refusal.TheVariants.{NotHeld}
use Rattle.sheet.proofs.Calls.{take_does, not_held}
use Rattle.sheet.proofs.sheet.Sheet.take_back.Goals as goal

pub returns-in_err-place : goal.returns-in_err-place
returns-in_err-place c =
    let none : c.find.result ≡ None = grind (arith, common_steps) in
    let told : c.from_residual.result ≡ Err NotHeld = grind (arith, common_steps) in
    not_held _ _ _ (sym c.if-not-has.ensures) (sym c.find.ensures ∙ none) told

pub returns : goal.returns
returns c =
    let found : c.find.result ≡ Some c.in_ok-place.place = grind (arith, common_steps) in
    take_does _ _ _ _ (sym c.if-not-has.ensures) (sym c.find.ensures ∙ found) c.close_up.ensures.held c.close_up.ensures.memory refl c.close_up.ensures.lent
