use Rattle.std.proofs.Common.{◌≡◌, ℕ, List, [], refl, ap, ◌∙◌, subst, rules}
use Rattle.sheet.specs.Memory.{tally}
use Rattle.line.specs.Pieces.{lines}
use Rattle.book.specs.Pages.{Wrote}
use Rattle.book.specs.Session.{from_start, on_grid, texts}
use Rattle.book.specs.declared.page.Page.{Page}
use Rattle.book.proofs.Lengths.{session_counted}
use Rattle.book.proofs.Writing.{part_last, part_all, ended_len, ended_bytes}
use Rattle.book.proofs.page.session.replies.Goals as goal

-- the replies to a part of the input, as the text of a session
session_of : (page after : Page) (bytes part : List ℕ) → bytes ≡ part → Wrote page (texts (from_start (lines bytes))) after → Wrote page (texts (from_start (lines part))) after
session_of page after bytes part e wrote = subst (λ bs. Wrote page (texts (from_start (lines bs))) after) e wrote

-- no grid was opened
pub returns-in_default : goal.returns-in_default
returns-in_default c =
    let wrote = session_of _ _ _ _ (c.new-lines.ensures ∙ c.read_part.ensures) (part_all c.in_default.ensures) in
    let counted = session_counted c.args.input.now in
    record { len = ended_len _ _ _ _ refl refl wrote counted; bytes = ended_bytes _ _ _ _ refl refl wrote counted _ (search rules) }

-- the replies up to the grid, and then those on it
pub returns : goal.returns
returns c =
    let left = lines c.open.new.lines.rest.now in
    let on-it = c.serve.ensures [] (ap tally c.new-sheet.ensures.hits) in
    let served = subst (λ g. Wrote c.open.new.page (texts (on_grid g.side [] left)) c.serve.new.page) c.new-sheet.ensures.grid on-it in
    let whole = part_last (texts (on_grid c.in-Some.grid.side [] left)) c.in-Some.ensures served in
    let wrote = session_of _ _ _ _ (c.new-lines.ensures ∙ c.read_part.ensures) whole in
    let counted = session_counted c.args.input.now in
    record { len = ended_len _ _ _ _ refl refl wrote counted; bytes = ended_bytes _ _ _ _ refl refl wrote counted _ (search rules) }
