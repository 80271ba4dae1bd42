-- The packed spot, byte by byte.
use Rattle.std.specs.Prelude.{◌≡◌, ℕ, ◌+◌, ◌*◌, ◌≤◌, List, [], ◌∷◌, ◌++◌, length}
use Rattle.grid.specs.declared.cell.Cell.{Cell}
use Rattle.select.specs.CellOrders.{before}
use Rattle.select.specs.declared.element.Axis.TheVariants.{X}
use Rattle.arrange.specs.Computed.{tree}
use Rattle.bits.specs.Packing.{packed}
use Rattle.numlist.specs.Lists.{Meaning}
use Rattle.sheet.specs.Counts.{Counts}
use Rattle.sheet.specs.Memory.{tally}
use Rattle.spot.specs.Codes.{codes, root}
use Rattle.spot.specs.declared.make.Make.{Make}
use Rattle.spot.specs.declared.trailer.Trailer.{Trailer}

-- what a make means: the number of a cell by side, parent and cell; the number list; and the make number
pub record Making : Type 0 where
  pub code : ℕ → Cell → Cell → ℕ
  pub list : Meaning
  pub number : ℕ

abbrev pub making : (ℕ → Cell → Cell → ℕ) → Meaning → ℕ → Making
making code list number = record { code = code; list = list; number = number }

-- what a make means, by what its code and its list mean
abbrev pub meant : {C L Layout : Type 0} {codes : _} {lists : _} → Make C L Layout codes lists → Making
meant {codes = codes} {lists = lists} make = making (codes.code make.code) (lists.meaning make.list) make.number

-- every code has at most 42 bits, and the list reaches as far
abbrev pub Wide : Making → Type 0
Wide M = (42 ≤ M.list.reach) × (M.list.reach ≤ 64)

-- the edition of the format
abbrev pub edition : ℕ
edition = 1

-- the bytes of a trailer: six numbers of 4 bytes, their least significant byte first; the last of them has the make
-- number in its two lower bytes and the edition in its two upper ones
abbrev pub trailer_bytes : Trailer → List ℕ
trailer_bytes t =
    packed 32
    (t.length ∷ t.hits ∷ t.root.x ∷ t.root.y ∷ t.side ∷ (t.make + 65536 * edition) ∷ [])

-- the number list of the codes, in order of places
abbrev pub code_bytes : Making → ℕ → List Cell → List ℕ
code_bytes M side tree = M.list.string (codes (M.code side) tree)

-- the trailer of a tree
abbrev pub trailer : Making → ℕ → List Cell → Trailer
trailer M side tree = record {
  length = length (code_bytes M side tree);
  hits = length tree;
  root = root tree;
  side = side;
  make = M.number;
}

-- the spot of a tree: its codes, and then the trailer
abbrev pub spot : Making → ℕ → List Cell → List ℕ
spot M side tree = code_bytes M side tree ++ trailer_bytes (trailer M side tree)

-- the packed spot of hits: that of their tree, which is cut by x first
abbrev pub packed_spot : Making → ℕ → List Cell → List ℕ
packed_spot M side hits = spot M side (tree before X hits)

-- bytes are the packed spot of a make, a grid's side and counts: that of hits which are so counted. Hits of the same counts
-- have the same tree, so there is one such spot
pub record Packed (M : Making) (side : ℕ) (t : Counts) (bytes : List ℕ) : Type 0 where
  pub hits : List Cell
  pub counted : tally hits ≡ t
  pub is : bytes ≡ packed_spot M side hits
