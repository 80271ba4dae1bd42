use Rattle.std.proofs.Common.{◌≡◌, ◌<◌, drop}
use Rattle.line.specs.Grammar.{followed, spelled}
use Rattle.line.proofs.words.spelled.Given as goal

abbrev pub invariant-loop-byte : goal.invariant-loop-byte
invariant-loop-byte l = record { small : l.number < 4294967296; so_far : followed l.number (drop l.byte-index l.word) ≡ spelled l.word }
