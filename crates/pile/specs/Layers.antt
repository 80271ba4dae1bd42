-- What a layer means, by what the list below it means.
use Rattle.std.specs.Prelude.{◌≡◌, ℕ, ◌≤◌, List, length}
use Rattle.numlist.specs.Lists.{Meaning}
use Rattle.numlist.specs.Cuts.{cut, below_at, below_in, ones_in}
use Rattle.numlist.specs.Placed.{Placed}
use Rattle.pile.specs.declared.layer.Layer.{Layer}
use Rattle.pile.specs.declared.layer.Layer.TheVariants.{Bare, Over}
use Rattle.pile.specs.declared.layer.LayerLayout.{LayerLayout}
use Rattle.pile.specs.declared.layer.LayerLayout.TheVariants.{Same, Parted}

-- the list itself, or a cut over it
abbrev pub layered : {L : Type 0} → (L → Meaning) → Layer L → Meaning
layered means (Bare list) = means list
layered means (Over c) = cut c.width.bits (means c.below)

-- the sections lie as the list itself says, or as a cut over it does
abbrev pub Laid : {L B : Type 0} → (L → List ℕ → ℕ → B → Type 0) → Layer L → List ℕ → ℕ → LayerLayout B → Type 0
Laid laid (Bare list) bytes m (Same places) = laid list bytes m places
Laid laid (Bare list) bytes m (Parted places) = ⊥
Laid laid (Over c) bytes m (Same places) = ⊥
Laid laid (Over c) bytes m (Parted places) =
    Placed c.width.bits m places.places × (below_at c.width.bits m ≤ length bytes)
    × (places.ones.numbers ≡ ones_in c.width.bits bytes m)
    × laid c.below (below_in c.width.bits bytes m) (ones_in c.width.bits bytes m) places.below
