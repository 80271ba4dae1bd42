-- Where the sections of a cut lie.
use Rattle.std.specs.Prelude.{◌≡◌, ℕ, ◌+◌, ◌<◌, Bool, true, false, List, ◌≢◌, slice_index}
use Rattle.bits.specs.Packing.{unpacked}
use Rattle.numlist.specs.Cuts.{marks_at, directory_at, below_at, marks_in}
use Rattle.numlist.specs.declared.places.Places.{Places}

-- the sections of m numbers of a cut that keeps b bits begin there
pub record Placed (b m : ℕ) (p : Places) : Type 0 where
  pub its_marks : p.marks ≡ marks_at b m
  pub its_directory : p.directory ≡ directory_at b m
  pub its_below : p.below ≡ below_at b m

-- low part i of m numbers, and mark i
abbrev pub low_with_mark : ℕ → ℕ → List ℕ → ℕ → ℕ
low_with_mark b m bytes i = slice_index (unpacked b m bytes) i + slice_index (marks_in b bytes m) i

-- each number has a low part or a mark, or one has none
abbrev pub NoEmpty : ℕ → ℕ → List ℕ → Bool → Type 0
NoEmpty b m bytes true = (i : ℕ) → i < m → low_with_mark b m bytes i ≢ 0
NoEmpty b m bytes false = (i : ℕ) × (i < m) × (low_with_mark b m bytes i ≡ 0)
