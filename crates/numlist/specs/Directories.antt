-- The directory of marks: how many entries, and how large. Assumes nothing.
use Rattle.std.specs.Prelude.{◌≡◌, ℕ, ◌*◌, ◌%◌, ◌^◌, ◌<◌, ◌≤◌, List, [], ◌∷◌, ◌++◌, length, take, sum, ◌≢◌, slice_index}
use Rattle.std.proofs.Common.{sym, ap, ◌∙◌, ⊎_elim, zero-add, arith}
use Rattle.std.specs.List.{range_with_len}
use Rattle.std.proofs.lemmas.List.FromFn.{length-map-range_with_len, get_or-map-range_with_len, fill_by_all}
use Rattle.std.proofs.ByRecursion.{All-map, All-weaker, All-from_get_or, sum_by_le}
use Rattle.std.proofs.lemmas.List.{length_push, get_or_push, get_or_append_left, take_at, take-append-le}
use Rattle.std.proofs.lemmas.Bool.{cases_lt}
use Rattle.std.proofs.lemmas.List.Sums.{sum_by-take-le}
use Rattle.bits.specs.Packing.{Narrow}
use Rattle.numlist.specs.Lists.{most}
use Rattle.numlist.specs.Parts.{entries, directory}

pub length-directory : (ms : List ℕ) → length (directory ms) ≡ entries (length ms)
length-directory ms = length-map-range_with_len (λ g. sum (take (256 * g) ms)) 0 (entries (length ms))

-- no more 1 marks than marks
pub sum-narrow : (ms : List ℕ) → Narrow 1 ms → sum ms ≤ length ms
sum-narrow ms narrow =
    let one : (x : ℕ) → x < 2 ^ 1 → x ≤ 1 = λ x h. omega arith in
    omega (arith, sum_by_le (λ x. x) 1 ms (All-weaker (λ x. x < 2 ^ 1) (λ x. x ≤ 1) one ms narrow))

pub narrow-directory : (ms : List ℕ) → Narrow 1 ms → length ms ≤ most → Narrow 32 (directory ms)
narrow-directory ms narrow few =
    let entry : (g : ℕ) → sum (take (256 * g) ms) < 2 ^ 32 =
    λ g. omega (arith, sum_by-take-le (λ x. x) ms (256 * g), sum-narrow ms narrow)
    in
    let places = range_with_len 0 (entries (length ms)) in
    All-map (λ n. n < 2 ^ 32) (λ g. sum (take (256 * g) ms)) places
    (All-from_get_or (λ g. sum (take (256 * g) ms) < 2 ^ 32) places 0 (λ i h. entry (slice_index places i)))

-- a mark more: it begins a group, or does not
module _ (ms : List ℕ) (y : ℕ) where
  entry_kept : (k : ℕ) → k < entries (length ms) → slice_index (directory ms) k ≡ sum (take (256 * k) (ms ++ y ∷ []))
  entry_kept k h =
      get_or-map-range_with_len (λ g. sum (take (256 * g) ms)) 0 (entries (length ms)) k k 0 h (zero-add k)
      ∙ ap sum (sym (take-append-le (256 * k) ms (y ∷ []) (omega arith)))

  pub directory_same : (length ms % 256 ≢ 0) → directory (ms ++ y ∷ []) ≡ directory ms
  directory_same within =
      let long = length_push ms y in
      sym (fill_by_all (λ g. sum (take (256 * g) (ms ++ y ∷ []))) (directory ms) (entries (length (ms ++ y ∷ []))) 0
      (length-directory ms ∙ omega arith) (λ k h. entry_kept k (omega arith)))

  pub directory_new : length ms % 256 ≡ 0 → directory (ms ++ y ∷ []) ≡ directory ms ++ sum ms ∷ []
  directory_new whole =
      sym (fill_by_all (λ g. sum (take (256 * g) (ms ++ y ∷ []))) (directory ms ++ sum ms ∷ []) (entries (length (ms ++ y ∷ []))) 0
      (length_push (directory ms) (sum ms) ∙ omega (arith, length-directory ms, length_push ms y)) each)
    where
      each : (k : ℕ) → k < entries (length (ms ++ y ∷ [])) → slice_index (directory ms ++ sum ms ∷ []) k ≡ sum (take (256 * k) (ms ++ y ∷ []))
      each k h =
          ⊎_elim
          (λ inside. get_or_append_left (directory ms) (sum ms ∷ []) 0 k (omega (arith, length-directory ms)) ∙ entry_kept k inside)
          (λ last.
          let end : length ms ≡ 256 * k = omega (arith, length_push ms y) in
          let here : length (directory ms) ≡ k = omega (arith, length-directory ms, length_push ms y) in
          get_or_push (directory ms) (sum ms) 0 k here ∙ ap sum (sym (take_at ms (y ∷ []) (256 * k) end)))
          (cases_lt k (entries (length ms)))
