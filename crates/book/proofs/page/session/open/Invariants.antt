use Rattle.std.proofs.Common.{length}
use Rattle.line.specs.Pieces.{lines}
use Rattle.book.specs.Pages.{Part}
use Rattle.book.specs.Session.{from_start, texts}
use Rattle.book.proofs.page.session.open.Given as goal

abbrev pub invariant-loop-line : goal.invariant-loop-line
invariant-loop-line l =
    Part l.initial.page (texts (from_start (lines l.initial.lines.rest.now))) (texts (from_start (lines l.lines.rest.now))) l.page

abbrev pub decreases-loop-line : goal.decreases-loop-line
decreases-loop-line l = length (lines l.lines.rest.now)
