-- A line more of a session. Assumes nothing.
use Rattle.std.proofs.Common.{◌≡◌, ℕ, ◌<◌, ◌≤◌, min, List, [], ◌∷◌, ◌++◌, length, take, Some, None, Option, Result, sym, refl, ap, ◌∙◌, subst, ⊎_elim, append_assoc, append-nil, arith, take_all}
use Rattle.std.proofs.lemmas.Bool.{cases_lt}
use Rattle.line.specs.Reading.{first_command, behind_first}
use Rattle.line.specs.Grammar.{understood}
use Rattle.line.specs.declared.command.Command.{Command}
use Rattle.line.specs.declared.refusal.NotUnderstood.{NotUnderstood}
use Rattle.grid.specs.declared.grid.Grid.{Grid}
use Rattle.line.specs.Pieces.{lines}
use Rattle.sheet.specs.Counts.{Counts, none, counts, counts_from, step}
use Rattle.sheet.specs.Memory.{places, hits, tally}
use Rattle.sheet.specs.declared.sheet.Lent.{Lent}
use Rattle.sheet.specs.declared.call.Call.{Call}
use Rattle.book.specs.Pages.{Wrote, Part}
use Rattle.book.specs.Replies.{line as reply_line}
use Rattle.book.specs.Session.{sheet_places, reply, outcome_before, outcome_on, calls, opens, behind, on_grid, from_start, texts}
use Rattle.book.specs.declared.page.Page.{Page}
use Rattle.book.specs.declared.refusal.Refused.{Refused}
use Rattle.book.specs.declared.reply.Reply.{Reply}
use Rattle.book.proofs.Writing.{part_none, part_more, part_all}

-- n elements at most, by the smaller of n and the length
pub take_min : {X : Type 0} (n : ℕ) (xs : List X) → take (min (length xs) n) xs ≡ take n xs
take_min n xs = ⊎_elim short long (cases_lt (length xs) n)
  where
    short : length xs < n → take (min (length xs) n) xs ≡ take n xs
    short h = take_all (min (length xs) n) xs (omega arith) ∙ sym (take_all n xs (omega arith))

    long : n ≤ length xs → take (min (length xs) n) xs ≡ take n xs
    long h = let e : min (length xs) n ≡ n = omega arith in ap (λ k. take k xs) e

-- a line was read off the front of those left
module _ (left after : List (List ℕ)) (line : Result Command NotUnderstood) (read : Some line ≡ first_command left) (rest : after ≡ behind_first left) where
  pub start_step : from_start left ≡ reply line (outcome_before line) ∷ behind (opens line) (from_start after) after
  start_step = go left read rest
    where
      go : (left : List (List ℕ)) → Some line ≡ first_command left → after ≡ behind_first left → from_start left ≡ reply line (outcome_before line) ∷ behind (opens line) (from_start after) after
      go [] r b = let z : ◌≡◌ {A = ℕ} 0 1 = cc in absurd (omega arith)
      go (l ∷ ls) r b =
          let same : understood l ≡ line = cc in
          λ i. reply (same i) (outcome_before (same i)) ∷ behind (opens (same i)) (from_start (b' i)) (b' i)
        where
          b' : ls ≡ after
          b' = sym b

  -- the reply to a line that opens a grid, or does not, is written
  pub start_reply : {page page' page'' : Page} {whole : List ℕ} (r : Reply) (opened : Option ℕ) → Part page whole (texts (from_start left)) page' → r ≡ reply line (outcome_before line) → opened ≡ opens line → Wrote page' (reply_line r) page'' → Part page whole (texts (behind opened (from_start after) after)) page''
  start_reply {page} {page'} {page''} {whole} r opened part is side wrote =
      let rest : List Reply = behind opened (from_start after) after in
      let all : from_start left ≡ r ∷ rest = start_step ∙ (λ i. sym is i ∷ behind (sym side i) (from_start after) after) in
      part_more (reply_line r) (texts rest) (subst (λ rs. Part page whole (texts rs) page') all part) wrote

  pub grid_step : (side : ℕ) (past : List Call) → on_grid side past left ≡ reply line (outcome_on side (counts side sheet_places past) line) ∷ on_grid side (past ++ calls line) after
  grid_step side past = go left read rest
    where
      go : (left : List (List ℕ)) → Some line ≡ first_command left → after ≡ behind_first left → on_grid side past left ≡ reply line (outcome_on side (counts side sheet_places past) line) ∷ on_grid side (past ++ calls line) after
      go [] r b = let z : ◌≡◌ {A = ℕ} 0 1 = cc in absurd (omega arith)
      go (l ∷ ls) r b =
          let same : understood l ≡ line = cc in
          λ i. reply (same i) (outcome_on side (counts side sheet_places past) (same i)) ∷ on_grid side (past ++ calls (same i)) (sym b i)

-- no line was left
pub no_line : (left : List (List ℕ)) → None ≡ first_command left → left ≡ []
no_line [] e = refl
no_line (l ∷ ls) e = let z : ◌≡◌ {A = ℕ} 0 1 = cc in absurd (omega arith)

-- calls after calls
counts_after : (side places : ℕ) (t : Counts) (earlier later : List Call) → counts_from side places t (earlier ++ later) ≡ counts_from side places (counts_from side places t earlier) later
counts_after side places t [] later = refl
counts_after side places t (call ∷ earlier) later = counts_after side places (step side places t call) earlier later

-- the lines on a sheet, as far as they are replied to: the calls that they made, and what is written
pub record Serving (on : Grid) (start : Lent) (input : List ℕ) (page : Page) (grid' : Grid) (sheet : Lent) (rest : List ℕ) (page' : Page) : Type 0 where
  pub places : places sheet ≡ 1024
  pub grid : grid' ≡ on
  pub made : List Call
  pub tallied : tally (hits sheet) ≡ counts_from on.side 1024 (tally (hits start)) made
  pub wrote : (earlier : List Call) → tally (hits start) ≡ counts on.side 1024 earlier → Part page (texts (on_grid on.side earlier (lines input))) (texts (on_grid on.side (earlier ++ made) (lines rest))) page'

pub serving_none : (grid : Grid) (start : Lent) (input : List ℕ) (page : Page) → places start ≡ 1024 → Serving grid start input page grid start input page
serving_none grid start input page places = record {
  places = places;
  grid = refl;
  made = [];
  tallied = refl;
  wrote = λ earlier e.
      subst (λ past. Part page (texts (on_grid grid.side earlier (lines input))) (texts (on_grid grid.side past (lines input))) page) (sym (append-nil earlier))
      (part_none page (texts (on_grid grid.side earlier (lines input))));
}

-- a line is read and done on the sheet, and its reply is written
module _ {on grid' grid'' : Grid} {start before after : Lent} {input left left' : List ℕ} {page page' page'' : Page}
    (serving : Serving on start input page grid' before left page')
    (line : Result Command NotUnderstood) (outcome : Result (Option ℕ) Refused)
    (read : Some line ≡ first_command (lines left)) (behind' : lines left' ≡ behind_first (lines left))
    (came : outcome ≡ outcome_on grid'.side (tally (hits before)) line)
    (called : tally (hits after) ≡ counts_from grid'.side 1024 (tally (hits before)) (calls line))
    (places' : places after ≡ 1024) (same : grid'' ≡ grid')
    (replied : Wrote page' (reply_line (reply line outcome)) page'') where
  pub serving_more : Serving on start input page grid'' after left' page''
  serving_more = record {
    places = places';
    grid = same ∙ serving.grid;
    made = serving.made ++ calls line;
    tallied = called ∙ (λ i. counts_from (serving.grid i).side 1024 (serving.tallied i) (calls line)) ∙ sym (counts_after on.side 1024 (tally (hits start)) serving.made (calls line));
    wrote = λ earlier e.
        part_more (reply_line (reply line outcome)) (texts (on_grid side (earlier ++ (serving.made ++ calls line)) (lines left')))
        (subst (λ rs. Part page (texts (on_grid side earlier (lines input))) (texts rs) page') (next earlier e) (serving.wrote earlier e)) replied;
  }
    where
      side : ℕ
      side = on.side

      -- the counts at which the line was done
      now : (earlier : List Call) → tally (hits start) ≡ counts side 1024 earlier → tally (hits before) ≡ counts side 1024 (earlier ++ serving.made)
      now earlier e = serving.tallied ∙ ap (λ t. counts_from side 1024 t serving.made) e ∙ sym (counts_after side 1024 none earlier serving.made)

      next : (earlier : List Call) → tally (hits start) ≡ counts side 1024 earlier → on_grid side (earlier ++ serving.made) (lines left) ≡ reply line outcome ∷ on_grid side (earlier ++ (serving.made ++ calls line)) (lines left')
      next earlier e =
          grid_step (lines left) (lines left') line read behind' side (earlier ++ serving.made)
          ∙ ap (λ past. reply line (outcome_on side (counts side 1024 (earlier ++ serving.made)) line) ∷ on_grid side past (lines left')) (append_assoc earlier serving.made (calls line))
          ∙ ap (λ o. reply line o ∷ on_grid side (earlier ++ (serving.made ++ calls line)) (lines left')) (sym (came ∙ (λ i. outcome_on (serving.grid i).side (now earlier e i) line)))

-- no line is left
pub served : {on grid' : Grid} {start sheet : Lent} {input left : List ℕ} {page page' : Page} → Serving on start input page grid' sheet left page' → None ≡ first_command (lines left) → (earlier : List Call) → tally (hits start) ≡ counts on.side 1024 earlier → Wrote page (texts (on_grid on.side earlier (lines input))) page'
served {on} {input = input} {left = left} {page} {page'} serving end earlier e =
    part_all (subst (λ ls. Part page (texts (on_grid on.side earlier (lines input))) (texts (on_grid on.side (earlier ++ serving.made) ls)) page') (no_line (lines left) end) (serving.wrote earlier e))
