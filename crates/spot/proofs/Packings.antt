-- Packing by the counts of the hits. Assumes nothing.
use Rattle.std.proofs.Common.{◌≡◌, ℕ, ◌<◌, cond, List, length, Err, sym, refl, ap, ◌∙◌}
use Rattle.std.proofs.lemmas.Bool.{lt-leb}
use Rattle.grid.specs.Cells.{count}
use Rattle.grid.specs.declared.cell.Cell.{Cell}
use Rattle.select.specs.declared.element.Axis.TheVariants.{X}
use Rattle.arrange.proofs.Computing.{tree_of_cells}
use Rattle.sheet.specs.Memory.{tally}
use Rattle.spot.specs.Packs.{Packs, SameBytes, spot_answer}
use Rattle.spot.specs.Spots.{Making, spot, packed_spot}
use Rattle.spot.specs.declared.refusal.PackRefused.{PackRefused}

module _ (M : Making) (side : ℕ) (hits : List Cell) (scratch : ℕ) (out : List ℕ) where
  -- the scratch is too short
  pub packs_refused : scratch < length hits → Packs M side (tally hits) scratch out out (Err PackRefused.NoScratch)
  packs_refused short = record {
    spot = packed_spot M side hits;
    packed = record { hits = hits; counted = refl; is = refl };
    answered = sym (ap (λ b. cond b (spot_answer (packed_spot M side hits) (length out)) (Err PackRefused.NoScratch)) (lt-leb (length hits) scratch short));
    bytes = refl;
  }

-- hits of the same counts have the same tree, and so the same spot
pub same_spot : (M : Making) (side : ℕ) (hs hs' : List Cell) → ((c : Cell) → count c hs ≡ count c hs') → packed_spot M side hs ≡ packed_spot M side hs'
same_spot M side hs hs' same = ap (spot M side) (tree_of_cells X hs hs' same)

pub one_spot : (M : Making) → SameBytes M
one_spot M side places places' calls calls' bytes bytes' same first second =
    first.is
    ∙ same_spot M side first.hits second.hits (λ c. ap (λ t. t.times c) first.counted ∙ same c ∙ sym (ap (λ t. t.times c) second.counted))
    ∙ sym second.is
