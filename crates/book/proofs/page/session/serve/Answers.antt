use Rattle.std.proofs.Common.{◌≡◌, subst, sym}
use Rattle.book.specs.Pages.{Wrote}
use Rattle.book.specs.Replies.{line}
use Rattle.book.proofs.Steps.{Serving, serving_none, serving_more, served}
use Rattle.book.proofs.page.session.serve.Goals as goal

pub loop-line-init : goal.loop-line-init
loop-line-init c =
    let start = c.args.lines.now.rest.now in
    let same : c.into_iter-line-iterator.result.now.rest.now ≡ start = cc in
    subst (λ rest. Serving c.args.sheet.now.grid c.args.sheet.now.lent start c.args.page.now c.args.sheet.now.grid c.args.sheet.now.lent rest c.args.page.now) (sym same) (serving_none _ _ start _ c.requires)

pub loop-line-preserved : goal.loop-line-preserved
loop-line-preserved c =
    let read = c.in-Some.ensures.steps in
    let did = c.perform-outcome.ensures in
    let replied = subst (λ r. Wrote c.loop-line.page (line r) c.reply.new.self) c.new.ensures c.reply.ensures in
    serving_more c.loop-line.invariant c.in-Some.line c.perform-outcome.result read.command read.behind did.outcome did.counts did.places did.grid replied

pub returns : goal.returns
returns c = served c.loop-line.invariant c.in-None.ensures.steps.command
