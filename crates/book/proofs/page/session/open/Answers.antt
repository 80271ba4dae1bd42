use Rattle.std.proofs.Common.{◌≡◌, ap, ◌∙◌, subst, rules}
use Rattle.line.specs.Pieces.{lines}
use Rattle.book.specs.Outcomes.{outcome_of_grid}
use Rattle.book.specs.Pages.{Part}
use Rattle.book.specs.Session.{reply, outcome_before, from_start, texts}
use Rattle.book.proofs.Steps.{start_reply, no_line}
use Rattle.book.proofs.page.session.open.Goals as goal
use Rattle.book.proofs.page.session.open.Goals.{After-reply}

-- the reply is that of a line before a grid
replied : (c : After-reply) → c.new.result ≡ reply c.in-Some.line (outcome_before c.in-Some.line)
replied c =
    let came : c.map.result ≡ outcome_of_grid c.asked_grid-asked.result = search rules in
    c.new.ensures ∙ ap (reply c.in-Some.line) (came ∙ c.asked_grid-asked.ensures.outcome)

pub returns-in-Ok : goal.returns-in-Ok
returns-in-Ok c =
    let read = c.in-Some.ensures.steps in
    start_reply _ _ _ read.command read.behind _ _ c.loop-line.invariant (replied (goal.at.returns-in-Ok c).After-reply) c.in-Ok.ensures.side c.reply.ensures

pub loop-line-preserved : goal.loop-line-preserved
loop-line-preserved c =
    let read = c.in-Some.ensures.steps in
    start_reply _ _ _ read.command read.behind _ _ c.loop-line.invariant (replied (goal.at.loop-line-preserved c).After-reply) c.in_default-asked.ensures.side c.reply.ensures

pub returns : goal.returns
returns c =
    let whole = texts (from_start (lines c.args.lines.now.rest.now)) in
    subst (λ ls. Part c.args.page.now whole (texts (from_start ls)) c.loop-line.page) (no_line _ c.in_default.ensures.steps.command) c.loop-line.invariant
