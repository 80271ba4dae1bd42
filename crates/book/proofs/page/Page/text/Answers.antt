use Rattle.std.proofs.Common.{◌≡◌, [], ◌∷◌, Ok, Some, decimal, sym, ap, ◌∙◌, subst}
use Rattle.book.specs.Pages.{Wrote}
use Rattle.book.specs.Replies.{opening, text_of}
use Rattle.book.proofs.Writing.{wrote_then}
use Rattle.book.proofs.page.Page.text.Goals as goal

pub returns-in-Ok-Some : goal.returns-in-Ok-Some
returns-in-Ok-Some c =
    let letter = c.args.reply.letter in
    let n = c.in-Ok-Some.held in
    let held = wrote_then (32 ∷ []) (decimal n) c.write.ensures c.number.ensures in
    let whole = wrote_then (opening letter 0) (32 ∷ decimal n) c.opening-in-Ok-Some.ensures held in
    let accepted : c.args.reply.outcome ≡ Ok c.in-Ok-Some.field-0 = c.in-Ok-Some.is in
    let tells = rw accepted at c.in-Ok-Some.field-0-is in
    let told : c.args.reply.outcome ≡ Ok (Some n) = accepted ∙ ap Ok tells in
    subst (λ outcome. Wrote c.args.self.now (text_of letter outcome) c.number.new.self) (sym told) whole
