use Rattle.std.proofs.Common.{◌≡◌, take, drop}
use Rattle.sheet.specs.Runs.{Runs}
use Rattle.sheet.proofs.sheet.Sheet.run.Given as goal

-- the entries in front are answered, and those behind are as they were
abbrev pub invariant-loop-entry : goal.invariant-loop-entry
invariant-loop-entry l = record {
  ran : Runs l.initial.self l.self (take l.entry-index l.initial.journal) (take l.entry-index l.journal);
  waiting : drop l.entry-index l.journal ≡ drop l.entry-index l.initial.journal;
}
