-- Text on lent bytes.
use Rattle.std.specs.Prelude.{◌≡◌, ℕ, ◌+◌, ◌^◌, ◌<◌, List, [], ◌∷◌, ◌++◌, length, slice_set}
use Rattle.book.specs.declared.page.Page.{Page}

-- bytes with a text written over them from a place on, as far as they reach: past their end nothing is set
abbrev pub laid : ℕ → List ℕ → List ℕ → List ℕ
laid at [] bytes = bytes
laid at (b ∷ text) bytes = laid (at + 1) text (slice_set bytes at b)

-- a text was written behind what stood on a page, unless that is more than can be counted
pub record Wrote (before : Page) (text : List ℕ) (after : Page) : Type 0 where
  pub len : before.len + length text < 2 ^ 64 → after.len ≡ before.len + length text
  pub bytes : before.len + length text < 2 ^ 64 → after.bytes.now ≡ laid before.len text before.bytes.now
  -- the same bytes are lent
  pub lent : after.bytes.ghost_name ≡ before.bytes.ghost_name

-- a part of a text was written, and the rest is still to come
pub record Part (before : Page) (whole rest : List ℕ) (after : Page) : Type 0 where
  pub text : List ℕ
  pub wrote : Wrote before text after
  pub joins : text ++ rest ≡ whole
