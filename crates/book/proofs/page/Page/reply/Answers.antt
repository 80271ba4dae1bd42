use Rattle.book.proofs.Writing.{wrote_then}
use Rattle.book.proofs.page.Page.reply.Goals as goal

pub returns : goal.returns
returns c = wrote_then _ _ c.text.ensures c.write.ensures
