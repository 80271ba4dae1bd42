-- The codes of a tree: each cell by its number from its parent.
use Rattle.std.specs.Prelude.{ℕ, zero, suc, List, [], ◌∷◌, ◌++◌, length, take, drop, slice_index_or}
use Rattle.grid.specs.Cells.{origin}
use Rattle.grid.specs.declared.cell.Cell.{Cell}
use Rattle.arrange.specs.Trees.{middle}

-- the cell in the middle of a tree, its root; the origin where there is none
abbrev pub root : List Cell → Cell
root tree = slice_index_or tree (middle (length tree)) origin

-- a part that is cut: the codes of its left side, that of the cut against the parent, and those of its right side; the
-- cut is the parent of both sides
abbrev pub cut_codes : (Cell → Cell → ℕ) → (Cell → List Cell → List ℕ) → Cell → List Cell → List Cell → List ℕ
cut_codes code sides parent left [] = []
cut_codes code sides parent left (cut ∷ right) = sides cut left ++ code parent cut ∷ sides cut right

-- the codes of a part in order of places, by its parent; a part is cut in its middle, to the depth at most
unfoldable pub codes_to : ℕ → (Cell → Cell → ℕ) → Cell → List Cell → List ℕ
codes_to zero code parent part = []
codes_to (suc depth) code parent part =
    cut_codes code (codes_to depth code) parent (take (middle (length part)) part) (drop (middle (length part)) part)

-- the codes of a whole tree, whose root is its own parent
abbrev pub codes : (Cell → Cell → ℕ) → List Cell → List ℕ
codes code tree = codes_to (length tree) code (root tree) tree
