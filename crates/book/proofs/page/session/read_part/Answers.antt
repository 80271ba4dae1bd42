use Rattle.std.proofs.Common.{take, ap, ◌∙◌}
use Rattle.book.proofs.Steps.{take_min}
use Rattle.book.proofs.page.session.read_part.Goals as goal

pub returns : goal.returns
returns c = ap (λ n. take n c.args.input.now) c.min.ensures ∙ take_min 65536 c.args.input.now
