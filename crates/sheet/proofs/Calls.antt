-- What a taking-back does to the memory, by the counts. Assumes nothing.
use Rattle.std.proofs.Common.{◌≡◌, ℕ, ◌+◌, ◌<◌, max, true, ltb, length, get_or, take, drop, set, position, Some, None, Ok, Err, Result, sym, refl, ap, ◌∙◌, arith, length-set, length-take-le, get_or-take, drop-set-lt}
use Rattle.std.proofs.lemmas.List.Quantifiers.{position-Some}
use Rattle.std.proofs.lemmas.Bool.{lt-ltb}
use Rattle.grid.specs.Cells.{on, same, count, origin}
use Rattle.grid.specs.declared.cell.Cell.{Cell}
use Rattle.sheet.specs.Counts.{fewer}
use Rattle.sheet.specs.Memory.{memory, hits, tally, Does}
use Rattle.sheet.specs.declared.call.Call.TheVariants.{TakeBack}
use Rattle.sheet.specs.declared.refusal.Refusal.{Refusal}
use Rattle.sheet.specs.declared.refusal.Refusal.TheVariants.{NotHeld}
use Rattle.sheet.specs.declared.sheet.Lent.{Lent}
use Rattle.sheet.specs.declared.sheet.Sheet.{Sheet}
use Rattle.sheet.proofs.Tallies.{tally_closed, none_counted, some_counted}

-- there are as many hits as are held
pub held_long : (l : Lent) → length (hits l) ≡ l.held
held_long l = length-take-le l.held (memory l) l.within

-- the last hit takes the place of a hit of c
module _ (before after : Sheet) (c : Cell) (place : ℕ) (on-it : on before.grid.side c ≡ true)
    (found : position (same c) (hits before.lent) ≡ Some place)
    (held : after.lent.held + 1 ≡ before.lent.held)
    (wrote : memory after.lent ≡ set (memory before.lent) place (get_or (memory before.lent) after.lent.held origin))
    (grid : after.grid ≡ before.grid) (lent : after.lent.cells.ghost_name ≡ before.lent.cells.ghost_name) where
  some : ltb 0 (count c (hits before.lent)) ≡ true
  some = lt-ltb _ _ (some_counted c (hits before.lent) place found)

  inside : place < before.lent.held
  inside = let first = position-Some (same c) (hits before.lent) place origin found in omega (arith, first.0, held_long before.lent)

  is : same c (get_or (memory before.lent) place origin) ≡ true
  is =
      ap (same c) (sym (get_or-take before.lent.held (memory before.lent) place origin inside))
      ∙ (position-Some (same c) (hits before.lent) place origin found).1

  closed : tally (hits after.lent) ≡ fewer c (tally (hits before.lent))
  closed =
      ap (λ xs. tally (take after.lent.held xs)) wrote
      ∙ tally_closed (memory before.lent) c place after.lent.held (omega (arith, inside)) (omega (arith, before.lent.within)) is
      ∙ ap (λ n. fewer c (tally (take n (memory before.lent)))) held

  pub take_does : Does before after (TakeBack c) (Ok after.lent.held)
  take_does = record {
    answered = rw (on-it, some) (ap Ok (sym (held_long after.lent) ∙ ap (λ t. t.held) closed));
    counted = rw (on-it, some) closed;
    grid = grid;
    lent = lent;
    as_many = ap length wrote ∙ length-set (memory before.lent) place _;
    left = λ idle. grind arith;
    behind =
        ap (drop (max (length (hits before.lent)) (length (hits after.lent)))) wrote
        ∙ drop-set-lt _ (memory before.lent) place _ (omega (arith, inside, held_long before.lent));
  }

-- no hit is of cell c
pub not_held : (s : Sheet) (c : Cell) (r : Result ℕ Refusal) → on s.grid.side c ≡ true → position (same c) (hits s.lent) ≡ None → r ≡ Err NotHeld → Does s s (TakeBack c) r
not_held s c r on-it none told =
    let zero = none_counted c (hits s.lent) none in
    record {
      answered = rw (told, on-it, zero);
      counted = rw (on-it, zero);
      grid = refl;
      lent = refl;
      as_many = refl;
      left = λ idle. refl;
      behind = refl;
    }
