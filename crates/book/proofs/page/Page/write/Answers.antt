use Rattle.std.proofs.Common.{◌+◌, ◌++◌, take, ◌∙◌, refl, arith}
use borrow.Rule.Slice.PartMut.{Post-is}
use Rattle.book.proofs.Writing.{laid_copied}
use Rattle.book.proofs.page.Page.write.Goals as goal

pub returns : goal.returns
returns c =
    let bytes = c.args.self.now.bytes.now in
    let start = c.min-start.result in
    let count = c.min-count.result in
    record {
      len = λ fits. omega arith;
      bytes = λ fits.
          (λ i. take start bytes ++ (c.copy_from_slice.ensures.after i ++ Post-is start (start + count) bytes (omega arith) i))
          ∙ laid_copied c.args.self.now.len start count c.args.text.now bytes c.min-start.ensures c.min-count.ensures;
      lent = refl;
    }
