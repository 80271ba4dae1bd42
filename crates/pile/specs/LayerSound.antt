-- A layer is a sound list over any sound list. Assumes nothing.
use Rattle.numlist.specs.Lists.{Meaning, Sound}
use Rattle.numlist.specs.CutSound.{cut_sound}
use Rattle.pile.specs.Layers.{layered}
use Rattle.pile.specs.declared.layer.Layer.{Layer}
use Rattle.pile.specs.declared.layer.Layer.TheVariants.{Bare, Over}

pub layer_sound : {L : Type 0} (means : L → Meaning) → ((list : L) → Sound (means list)) → (s : Layer L) → Sound (layered means s)
layer_sound means sound (Bare list) = sound list
layer_sound means sound (Over c) = cut_sound c.width.bits (means c.below) c.width.low (sound c.below)
