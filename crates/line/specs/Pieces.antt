-- Bytes cut into pieces, and an input into lines.
use Rattle.std.specs.Prelude.{ℕ, cond, List, [], ◌∷◌, ◌==◌}

-- the first piece, and the others behind it
abbrev pub Pieces : Type 0
Pieces = List ℕ × List (List ℕ)

abbrev pub piece_ends : Pieces → Pieces
piece_ends p = ([], p.0 ∷ p.1)

abbrev pub piece_grows : ℕ → Pieces → Pieces
piece_grows b p = (b ∷ p.0, p.1)

-- what stands between the bytes `by`: one piece more than there are such bytes
abbrev pub pieces : ℕ → List ℕ → Pieces
pieces by [] = ([], [])
pieces by (b ∷ bs) = cond (b == by) (piece_ends (pieces by bs)) (piece_grows b (pieces by bs))

-- all pieces, but for a last one without a byte
abbrev pub without_empty_end : List ℕ → List (List ℕ) → List (List ℕ)
without_empty_end [] [] = []
without_empty_end (b ∷ bs) [] = (b ∷ bs) ∷ []
without_empty_end [] (next ∷ others) = [] ∷ without_empty_end next others
without_empty_end (b ∷ bs) (next ∷ others) = (b ∷ bs) ∷ without_empty_end next others

-- the lines of an input: byte 10 ends a line, and the last line may lack it
abbrev pub lines : List ℕ → List (List ℕ)
lines input = without_empty_end (pieces 10 input).0 (pieces 10 input).1
