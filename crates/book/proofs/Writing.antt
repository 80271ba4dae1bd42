-- One text behind another. Assumes nothing.
use Rattle.std.proofs.Common.{◌≡◌, ℕ, suc, ◌+◌, ◌-◌, ◌^◌, ◌<◌, ◌≤◌, min, List, [], ◌∷◌, ◌++◌, length, take, drop, set, sym, refl, ap, ◌∙◌, subst, append_assoc, arith, length-append, length-set, length-take, take-append-drop, take_all, le_refl, ⊎_elim}
use Rattle.std.proofs.lemmas.Bool.{cases_lt}
use Rattle.std.proofs.lemmas.List.{set_past, take_more_set, drop-set-lt, drop_all, append-nil}
use Rattle.book.specs.Pages.{laid, Wrote, Part}
use Rattle.book.specs.declared.page.Page.{Page}

laid-append : (at : ℕ) (a b bytes : List ℕ) → laid at (a ++ b) bytes ≡ laid (at + length a) b (laid at a bytes)
laid-append at [] b bytes = let none : at ≡ at + 0 = omega arith in ap (λ n. laid n b bytes) none
laid-append at (x ∷ a) b bytes =
    let more : at + 1 + length a ≡ at + suc (length a) = omega arith in
    laid-append (at + 1) a b (set bytes at x) ∙ ap (λ n. laid n b (laid (at + 1) a (set bytes at x))) more

-- past the end nothing is set
laid_past : (at : ℕ) (text bytes : List ℕ) → length bytes ≤ at → laid at text bytes ≡ bytes
laid_past at [] bytes past = refl
laid_past at (b ∷ text) bytes past =
    ap (laid (at + 1) text) (set_past bytes at b past) ∙ laid_past (at + 1) text bytes (omega arith)

-- what finds its place stands between what was before it and behind it
laid_within : (at : ℕ) (text bytes : List ℕ) → at + length text ≤ length bytes → laid at text bytes ≡ take at bytes ++ (text ++ drop (at + length text) bytes)
laid_within at [] bytes fits =
    let none : at ≡ at + 0 = omega arith in
    sym (take-append-drop at bytes) ∙ ap (λ n. take at bytes ++ drop n bytes) none
laid_within at (b ∷ text) bytes fits =
    let more : at + 1 + length text ≡ at + suc (length text) = omega arith in
    laid_within (at + 1) text (set bytes at b) (omega (arith, length-set {A = ℕ}))
    ∙ (λ i. take_more_set bytes at b (omega arith) i ++ (text ++ drop-set-lt (at + 1 + length text) bytes at b (omega arith) i))
    ∙ append_assoc (take at bytes) (b ∷ []) (text ++ drop (at + 1 + length text) bytes)
    ∙ ap (λ n. take at bytes ++ (b ∷ text ++ drop n bytes)) more

length-laid : (at : ℕ) (text bytes : List ℕ) → length (laid at text bytes) ≡ length bytes
length-laid at [] bytes = refl
length-laid at (b ∷ text) bytes = length-laid (at + 1) text (set bytes at b) ∙ length-set bytes at b

-- what finds no place is left out
laid_cut : (at : ℕ) (text bytes : List ℕ) → at ≤ length bytes → length bytes < at + length text → laid at text bytes ≡ take at bytes ++ (take (length bytes - at) text ++ drop (length bytes) bytes)
laid_cut at text bytes start past =
    let room : ℕ = length bytes - at in
    let front : List ℕ = take room text in
    let full : at + length front ≡ length bytes = omega (arith, length-take room text) in
    let put : laid at front bytes ≡ take at bytes ++ (front ++ drop (length bytes) bytes) =
    laid_within at front bytes (omega arith) ∙ ap (λ n. take at bytes ++ (front ++ drop n bytes)) full in
    let long : length (laid at front bytes) ≡ length bytes = length-laid at front bytes in
    ap (λ t. laid at t bytes) (sym (take-append-drop room text))
    ∙ laid-append at front (drop room text) bytes
    ∙ laid_past (at + length front) (drop room text) (laid at front bytes) (omega arith)
    ∙ put

-- as much of a text as finds its place is copied
pub laid_copied : (at start count : ℕ) (text bytes : List ℕ) → start ≡ min at (length bytes) → count ≡ min (length text) (length bytes - start) → take start bytes ++ (take count text ++ drop (start + count) bytes) ≡ laid at text bytes
laid_copied at start count text bytes is much = ⊎_elim behind before (cases_lt (length bytes) at)
  where
    at_end : start ≡ length bytes → count ≡ 0 → take start bytes ++ (take count text ++ drop (start + count) bytes) ≡ bytes
    at_end s z =
        (λ i. take (s i) bytes ++ (take (z i) text ++ drop (s i + z i) bytes))
        ∙ (λ i. take_all (length bytes) bytes (le_refl (length bytes)) i ++ drop_all (length bytes + 0) bytes (omega arith) i)
        ∙ append-nil bytes

    behind : length bytes < at → take start bytes ++ (take count text ++ drop (start + count) bytes) ≡ laid at text bytes
    behind h = at_end (omega arith) (omega arith) ∙ sym (laid_past at text bytes (omega arith))

    before : at ≤ length bytes → take start bytes ++ (take count text ++ drop (start + count) bytes) ≡ laid at text bytes
    before h = ⊎_elim cut whole (cases_lt (length bytes) (at + length text))
      where
        s : start ≡ at
        s = omega arith

        cut : length bytes < at + length text → take start bytes ++ (take count text ++ drop (start + count) bytes) ≡ laid at text bytes
        cut past =
            let n : count ≡ length bytes - at = omega arith in
            let e : start + count ≡ length bytes = omega arith in
            (λ i. take (s i) bytes ++ (take (n i) text ++ drop (e i) bytes)) ∙ sym (laid_cut at text bytes h past)

        whole : at + length text ≤ length bytes → take start bytes ++ (take count text ++ drop (start + count) bytes) ≡ laid at text bytes
        whole fits =
            let all : take count text ≡ text = take_all count text (omega arith) in
            let e : start + count ≡ at + length text = omega arith in
            (λ i. take (s i) bytes ++ (all i ++ drop (e i) bytes)) ∙ sym (laid_within at text bytes fits)

pub wrote_none : (page : Page) → Wrote page [] page
wrote_none page = record { len = λ _. omega arith; bytes = λ _. refl; lent = refl }

pub wrote_then : {before middle after : Page} (a b : List ℕ) → Wrote before a middle → Wrote middle b after → Wrote before (a ++ b) after
wrote_then {before} {middle} {after} a b first second = record {
  len = λ fits. omega (arith, first.len (short fits), second.len (short' fits), length-append a b);
  bytes = λ fits.
      second.bytes (short' fits)
      ∙ (λ i. laid (first.len (short fits) i) b (first.bytes (short fits) i))
      ∙ sym (laid-append before.len a b before.bytes.now);
  lent = second.lent ∙ first.lent;
}
  where
    short : before.len + length (a ++ b) < 2 ^ 64 → before.len + length a < 2 ^ 64
    short fits = omega (arith, length-append a b)

    short' : before.len + length (a ++ b) < 2 ^ 64 → middle.len + length b < 2 ^ 64
    short' fits = omega (arith, first.len (short fits), length-append a b)

pub part_none : (page : Page) (whole : List ℕ) → Part page whole whole page
part_none page whole = record { text = []; wrote = wrote_none page; joins = refl }

-- one piece of the rest is written
pub part_more : {before middle after : Page} {whole : List ℕ} (piece rest : List ℕ) → Part before whole (piece ++ rest) middle → Wrote middle piece after → Part before whole rest after
part_more piece rest part wrote = record {
  text = part.text ++ piece;
  wrote = wrote_then part.text piece part.wrote wrote;
  joins = append_assoc part.text piece rest ∙ part.joins;
}

-- the rest is written
pub part_last : {before middle after : Page} {whole : List ℕ} (rest : List ℕ) → Part before whole rest middle → Wrote middle rest after → Wrote before whole after
part_last {before} {middle} {after} rest part wrote =
    subst (λ text. Wrote before text after) part.joins (wrote_then part.text rest part.wrote wrote)

-- nothing was left to write
pub part_all : {before after : Page} {whole : List ℕ} → Part before whole [] after → Wrote before whole after
part_all {before} {after} part = part_last [] part (wrote_none after)

-- what the lender of a page's bytes gets back when the page ends
module _ (page after : Page) (text given : List ℕ) (start : page.len ≡ 0) (whole : page.bytes.now ≡ given) (wrote : Wrote page text after) (counted : length text < 2 ^ 64) where
  pub ended_len : after.len ≡ length text
  ended_len = omega (arith, wrote.len (omega arith))

  pub ended_bytes : (back : List ℕ) → (page.bytes.ghost_name ≡ after.bytes.ghost_name → back ≡ after.bytes.now) → back ≡ laid 0 text given
  ended_bytes back same = same (sym wrote.lent) ∙ wrote.bytes (omega arith) ∙ (λ i. laid (start i) text (whole i))
