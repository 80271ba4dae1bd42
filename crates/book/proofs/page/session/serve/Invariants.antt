use Rattle.book.proofs.Steps.{Serving}
use Rattle.book.proofs.page.session.serve.Given as goal

abbrev pub invariant-loop-line : goal.invariant-loop-line
invariant-loop-line l = Serving l.initial.sheet.grid l.initial.sheet.lent l.fn.lines.rest.now l.initial.page l.sheet.grid l.sheet.lent l.line-iterator.rest.now l.page
