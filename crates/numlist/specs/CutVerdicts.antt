-- Bytes that a cut accepts: what its tests say of them. Assumes nothing.
use Rattle.std.specs.Prelude.{◌≡◌, ℕ, ◌+◌, ◌<◌, ◌≤◌, true, List, length, drop, Ok, Decides, nat_lt, refl}
use Rattle.std.specs.List.{AllByRecursion}
use Rattle.std.proofs.lemmas.Slice.Eq.{bytes_eq-Decides}
use Rattle.std.proofs.lemmas.Bool.{and_parts, leb-true}
use Rattle.std.proofs.lemmas.Bool.Decides.{Decides-ltb}
use Rattle.std.proofs.ByRecursion.{Decides-by_and}
use Rattle.numlist.specs.Lists.{Meaning}
use Rattle.numlist.specs.Parts.{directory}
use Rattle.numlist.specs.Fixed.{filled}
use Rattle.numlist.specs.Cuts.{marks_at, below_at, marks_in, directory_in, ones_in, below_in, highs_in, nonzero, verdict_of}
use Rattle.numlist.specs.Verdicts.{passing_ok, below-ok}

pub nonzero_decides : (hs : List ℕ) → Decides (nonzero hs) (AllByRecursion (λ h. 0 < h) hs)
unfolding nonzero
nonzero_decides hs = Decides-by_and (λ h. nat_lt 0 h) (λ h. 0 < h) nonzero (λ h. Decides-ltb 0 h) refl (λ _ _. refl) hs

-- the bytes pass each test, and the list below takes k of them
pub record Passed (b : ℕ) (L : Meaning) (bytes : List ℕ) (m n : ℕ) : Type 0 where
  pub enough : below_at b m ≤ length bytes
  pub lows_filled : filled b m bytes ≡ true
  pub marks_filled : filled 1 m (drop (marks_at b m) bytes) ≡ true
  pub entries_same : directory_in b bytes m ≡ directory (marks_in b bytes m)
  pub taken : ℕ
  pub accepted_below : L.verdict (below_in b bytes m) (ones_in b bytes m) ≡ Ok taken
  pub positive : AllByRecursion (λ h. 0 < h) (highs_in b L bytes m)
  pub total : below_at b m + taken ≡ n

pub passed : (b : ℕ) (L : Meaning) (bytes : List ℕ) (m n : ℕ) → verdict_of b L bytes m ≡ Ok n → Passed b L bytes m n
passed b L bytes m n e =
    let first = passing_ok _ _ _ n e in
    let second = passing_ok _ _ _ n first.1 in
    let third = passing_ok _ _ _ n second.1 in
    let carried = below-ok _ _ n third.1 in
    let last = passing_ok _ _ _ n carried.2 in
    let fills = and_parts (filled b m bytes) (filled 1 m (drop (marks_at b m) bytes)) second.0 in
    record {
      enough = leb-true (below_at b m) (length bytes) first.0;
      lows_filled = fills.0;
      marks_filled = fills.1;
      entries_same = (bytes_eq-Decides (directory_in b bytes m) (directory (marks_in b bytes m))).0 third.0;
      taken = carried.0;
      accepted_below = carried.1;
      positive = (nonzero_decides (highs_in b L bytes m)).0 last.0;
      total = cc;
    }
