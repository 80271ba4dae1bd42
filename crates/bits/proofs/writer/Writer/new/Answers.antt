use Rattle.bits.proofs.writer.Writer.new.Goals as goal

pub returns-clause-written : goal.returns-clause-written
returns-clause-written c w = c.new.ensures w c.args.out.now
