use Rattle.std.proofs.Common.{◌≡◌, length, drop, ◌==◌}
use Rattle.std.specs.List.{slice_split}
use Rattle.line.specs.Grammar.{numbers}
use Rattle.line.specs.Reading.{words}
use Rattle.line.proofs.Numbers.{read}
use Rattle.line.proofs.words.numbers.Given as goal

abbrev pub invariant-loop-word : goal.invariant-loop-word
invariant-loop-word l =
    read l.numbers.items (numbers (drop (length l.yielded) (slice_split (λ b. b == 32) l.bytes))) ≡ numbers (words l.bytes)
