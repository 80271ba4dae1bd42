use Rattle.std.proofs.Common.{◌≡◌, ◌%◌, [], ◌∷◌, ◌++◌, ◌∙◌, subst, mod-eq_of_lt, arith}
use Rattle.bits.specs.Writing.{Written}
use Rattle.bits.proofs.writer.Writer.push_count.Goals as goal

pub returns-clause-written : goal.returns-clause-written
returns-clause-written c start xs within was =
    let whole : c.from.result % 4294967296 ≡ c.args.count =
    mod-eq_of_lt (omega (arith, c.from.ensures, c.ranges.count.fits)) ∙ c.from.ensures
    in
    subst (λ n. Written 32 c.push.new.self.pen start c.push.new.self.out.now (xs ++ n ∷ [])) whole (c.push.ensures.written start xs within was)
