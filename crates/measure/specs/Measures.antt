-- Measures: what they owe, and the one figure of a list of hits.
use Rattle.std.specs.Prelude.{◌≡◌, List, [], ◌∷◌, ◌++◌}
use Rattle.grid.specs.Cells.{count}
use Rattle.grid.specs.declared.cell.Cell.{Cell}

-- what a measure is: which values are figures, those whose words are in range; the figure of no hit and that of one hit;
-- and how the figures of two lists of hits are joined
pub record Figures (F : Type 0) : Type 1 where
  pub Good : F → Type 0
  pub none : F
  pub one : Cell → F
  pub join : F → F → F

-- what every measure owes
pub record MeasureLaws {F : Type 0} (m : Figures F) : Type 0 where
  -- the figures of no hit and of one hit are figures, and what is joined of figures is one
  pub none_good : m.Good m.none
  pub one_good : (c : Cell) → m.Good (m.one c)
  pub join_good : (f g : F) → m.Good f → m.Good g → m.Good (m.join f g)
  -- figures are joined in any bracketing and in any order
  pub associative : (f g h : F) → m.Good f → m.Good g → m.Good h → m.join (m.join f g) h ≡ m.join f (m.join g h)
  pub commutative : (f g : F) → m.Good f → m.Good g → m.join f g ≡ m.join g f
  -- no hit adds nothing to a figure
  pub neutral : (f : F) → m.Good f → m.join m.none f ≡ f

-- a figure is joined from a list of hits: from those of no hit and of one hit, by any cuts of the list into two
pub data Joins {F : Type 0} (m : Figures F) : List Cell → F → Type 0 where
  no_hit : Joins m [] m.none
  a_hit : (c : Cell) → Joins m (c ∷ []) (m.one c)
  both : (left right : List Cell) (f g : F) → Joins m left f → Joins m right g → Joins m (left ++ right) (m.join f g)

-- the figure of a list of hits: one hit after the other
unfoldable pub figure : {F : Type 0} → Figures F → List Cell → F
figure m [] = m.none
figure m (c ∷ cs) = m.join (m.one c) (figure m cs)

-- two lists have every cell equally often
abbrev pub SameHits : List Cell → List Cell → Type 0
SameHits hits others = (c : Cell) → count c hits ≡ count c others

-- in any order and any bracketing: whatever is joined from a list with the same hits is this figure
abbrev pub InAnyOrder : {F : Type 0} → Figures F → List Cell → F → Type 0
InAnyOrder {F} m hits f = (others : List Cell) (g : F) → SameHits hits others → Joins m others g → g ≡ f
