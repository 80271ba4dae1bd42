-- What the laws of a cell code give. Assumes nothing.
use Rattle.std.proofs.Common.{◌≡◌, ℕ, true, Some, None, Option, sym, ap, ◌∙◌}
use Rattle.grid.specs.Cells.{on}
use Rattle.grid.specs.Sides.{allowed}
use Rattle.grid.specs.declared.cell.Cell.{Cell}
use Rattle.cellcode.specs.Codes.{CodeLaws, Decodes}

-- the number of a cell is decoded to that cell
pub decodes_again : {code : ℕ → Cell → Cell → ℕ} → CodeLaws code → (side n : ℕ) (p c : Cell) (o : Option Cell) → allowed side ≡ true → on side p ≡ true → on side c ≡ true → n ≡ code side p c → Decodes code side p n o → o ≡ Some c
decodes_again laws side n p c (Some d) h on-p on-c is found =
    ap Some (laws.distinct side p d c h on-p found.1 on-c (found.2 ∙ is))
decodes_again laws side n p c None h on-p on-c is found = absurd (found c on-p on-c (sym is))
