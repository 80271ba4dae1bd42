-- A run that has come part of the way. Assumes nothing.
use Rattle.std.proofs.Common.{◌≡◌, ℕ, ◌+◌, ◌-◌, ◌<◌, ◌≤◌, max, true, false, not, List, [], ◌∷◌, ◌++◌, map, length, get_or, take, drop, set, Result, sym, refl, ap, ◌∙◌, subst, arith, length-drop, drop-drop}
use Rattle.std.proofs.lemmas.List.{drop_more, take_more, take_more_set, map_push}
use Rattle.std.proofs.lemmas.List.Sums.{fold_push}
use Rattle.std.proofs.lemmas.Bool.{not-true, and_parts, and_from}
use Rattle.sheet.specs.Counts.{Counts, counts_from, peak, answers_from, answer, step}
use Rattle.sheet.specs.Memory.{memory, places, hits, tally, writes, Does}
use Rattle.sheet.specs.Runs.{call_of, answer_of, none_writes, Runs}
use Rattle.sheet.specs.declared.call.Call.{Call}
use Rattle.sheet.specs.declared.refusal.Refusal.{Refusal}
use Rattle.sheet.specs.declared.run.Entry.{Entry}
use Rattle.sheet.specs.declared.sheet.Sheet.{Sheet}

-- lists that agree from a place on agree from a later one on
drop_further : {X : Type 0} (m n : ℕ) (xs ys : List X) → m ≤ n → drop m xs ≡ drop m ys → drop n xs ≡ drop n ys
drop_further m n xs ys h same =
    let split : n ≡ m + (n - m) = omega arith in
    ap (λ k. drop k xs) split
    ∙ sym (drop-drop (n - m) m xs)
    ∙ ap (drop (n - m)) same
    ∙ drop-drop (n - m) m ys
    ∙ ap (λ k. drop k ys) (sym split)

module _ (side places : ℕ) where
  -- one answer more
  answers_push : (t : Counts) (calls : List Call) (call : Call) → answers_from side places t (calls ++ call ∷ []) ≡ answers_from side places t calls ++ answer side places (counts_from side places t calls) call ∷ []
  answers_push t [] call = refl
  answers_push t (c ∷ calls) call = ap (λ l. answer side places t c ∷ l) (answers_push (step side places t c) calls call)

  -- the most hits held, with one call more
  peak_push : (t : Counts) (calls : List Call) (call : Call) → peak side places t (calls ++ call ∷ []) ≡ max (peak side places t calls) (counts_from side places t (calls ++ call ∷ [])).held
  peak_push t [] call = refl
  peak_push t (c ∷ calls) call = omega (arith, peak_push (step side places t c) calls call)

  -- what is held at the end is not more
  peak_end : (t : Counts) (calls : List Call) → (counts_from side places t calls).held ≤ peak side places t calls
  peak_end t [] = omega arith
  peak_end t (c ∷ calls) = omega (arith, peak_end (step side places t c) calls)

-- one entry more
none_writes_push : (es : List Entry) (e : Entry) → none_writes (es ++ e ∷ []) ≡ true → (none_writes es ≡ true) × (writes e.call e.answer ≡ false)
none_writes_push [] e idle = (refl, not-true _ (and_parts _ true idle).0)
none_writes_push (x ∷ es) e idle =
    let parts = and_parts (not (writes x.call x.answer)) (none_writes (es ++ e ∷ [])) idle in
    let rest = none_writes_push es e parts.1 in
    (and_from _ _ parts.0 rest.0, rest.1)

-- after the calls of the entries asked, one call more
module _ {start before after : Sheet} {asked answered : List Entry} (runs : Runs start before asked answered)
    (e : Entry) (r : Result ℕ Refusal) (does : Does before after e.call r) where
  abbrev pub entry : Entry
  entry = record { call = e.call; answer = r }

  abbrev side : ℕ
  side = start.grid.side

  abbrev room : ℕ
  room = places start.lent

  abbrev t : Counts
  t = tally (hits start.lent)

  abbrev calls : List Call
  calls = map call_of asked

  pushed : map call_of (asked ++ e ∷ []) ≡ calls ++ e.call ∷ []
  pushed = map_push call_of asked e

  counted : tally (hits after.lent) ≡ counts_from side room t (calls ++ e.call ∷ [])
  counted =
      does.counted
      ∙ (λ j. step (runs.grid j).side (runs.places j) (runs.counts j) e.call)
      ∙ sym (fold_push (step side room) t calls e.call)

  answered_by : r ≡ answer side room (counts_from side room t calls) e.call
  answered_by = does.answered ∙ (λ j. answer (runs.grid j).side (runs.places j) (runs.counts j) e.call)

  -- places behind the most hits held stay
  stayed : drop (peak side room t (calls ++ e.call ∷ [])) (memory after.lent) ≡ drop (peak side room t (calls ++ e.call ∷ [])) (memory start.lent)
  stayed =
      let top = peak_push side room t calls e.call in
      let end = peak_end side room t calls in
      let old = ap (λ u. u.held) runs.counts in
      let new = ap (λ u. u.held) counted in
      drop_further (max (length (hits before.lent)) (length (hits after.lent))) _ (memory after.lent) (memory before.lent) (omega arith) does.behind
      ∙ drop_further (peak side room t calls) _ (memory before.lent) (memory start.lent) (omega arith) runs.behind

  pub runs_more : Runs start after (asked ++ e ∷ []) (answered ++ entry ∷ [])
  runs_more = record {
    counts = counted ∙ ap (counts_from side room t) (sym pushed);
    answers =
        map_push answer_of answered entry
        ∙ (λ j. runs.answers j ++ answered_by j ∷ [])
        ∙ sym (answers_push side room t calls e.call)
        ∙ ap (answers_from side room t) (sym pushed);
    calls = map_push call_of answered entry ∙ ap (λ cs. cs ++ e.call ∷ []) runs.calls ∙ sym pushed;
    left = λ idle. let still = none_writes_push answered entry idle in does.left still.1 ∙ runs.left still.0;
    behind = subst (λ cs. drop (peak side room t cs) (memory after.lent) ≡ drop (peak side room t cs) (memory start.lent)) (sym pushed) stayed;
    lent = does.lent ∙ runs.lent;
    places = does.as_many ∙ runs.places;
    grid = does.grid ∙ runs.grid;
  }

-- the entry at place i of a journal is answered, after those in front of it
module _ (asked journal : List Entry) (i : ℕ) (d : Entry) (inside : i < length journal) (waiting : drop i journal ≡ drop i asked) where
  -- it was not touched before
  within : i < length asked
  within = omega (arith, ap length waiting, length-drop i journal, length-drop i asked)

  same : get_or journal i d ≡ get_or asked i d
  same = ap (λ es. get_or es 0 d) (sym (drop_more journal i d inside) ∙ waiting ∙ drop_more asked i d within)

  pub runs_next : {start before after : Sheet} (r : Result ℕ Refusal) → Runs start before (take i asked) (take i journal) → Does before after (get_or journal i d).call r → Runs start after (take (i + 1) asked) (take (i + 1) (set journal i (record { call = (get_or journal i d).call; answer = r })))
  runs_next {start} {before} {after} r runs does =
      rw (take_more asked i d within, take_more_set journal i (record { call = (get_or journal i d).call; answer = r }) inside, ← same)
      (runs_more runs (get_or journal i d) r does)
