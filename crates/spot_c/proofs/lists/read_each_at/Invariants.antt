use Rattle.std.proofs.Common.{◌≡◌, ◌≤◌, ℕ, Ok}
use Rattle.spot_c.proofs.Lookups.{Looked}
use Rattle.spot_c.proofs.lists.read_each_at.Given as goal

-- of bytes with a string of a list that reaches 64 bits at most, the places before the index are looked up
abbrev pub invariant-loop-place : goal.invariant-loop-place
invariant-loop-place g l =
    let L = g.L.NumberList.meaning l.list in
    (n : ℕ) → L.reach ≤ 64 → L.verdict l.bytes l.count.numbers ≡ Ok n
    → Looked (L.numbers l.bytes l.count.numbers) l.count.numbers l.initial.places l.places l.place-index
