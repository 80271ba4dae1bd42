-- No session is longer than can be counted. Assumes nothing.
use Rattle.std.proofs.Common.{◌≡◌, ℕ, zero, suc, ◌+◌, ◌*◌, ◌/◌, ◌%◌, ◌^◌, ◌<◌, ◌≤◌, Bool, true, false, cond, eqb, List, [], ◌∷◌, ◌++◌, length, take, Some, None, Option, Ok, Err, Result, refl, ap, arith, length-append, length-take}
use Rattle.std.specs.Fmt.{digits, digits_onto, decimal, digit_glyph}
use Rattle.line.specs.Grammar.{understood}
use Rattle.line.specs.Pieces.{pieces, piece_ends, piece_grows, without_empty_end, lines}
use Rattle.sheet.specs.declared.call.Call.{Call}
use Rattle.book.specs.Replies.{opening, text_of, line}
use Rattle.book.specs.Session.{behind, calls, from_start, on_grid, opens, texts, session}
use Rattle.book.specs.declared.refusal.Refused.{Refused}
use Rattle.book.specs.declared.refusal.Refused.TheVariants.{Side, Sheet, Line}
use Rattle.book.specs.declared.reply.Reply.{Reply}
use Rattle.book.specs.Refusals.{number}

-- an input has at most as many lines as bytes
few_lines : (input : List ℕ) → length (lines input) ≤ length input
few_lines [] = omega arith
few_lines (b ∷ bs) = by_test (eqb b 10) (few_lines bs)
  where
    longer : (piece : List ℕ) (others : List (List ℕ)) → length (without_empty_end (b ∷ piece) others) ≤ suc (length (without_empty_end piece others))
    longer piece [] = omega arith
    longer [] (next ∷ others) = omega arith
    longer (x ∷ piece) (next ∷ others) = omega arith

    by_test : (ends : Bool) → length (lines bs) ≤ length bs → length (without_empty_end (cond ends (piece_ends (pieces 10 bs)) (piece_grows b (pieces 10 bs))).0 (cond ends (piece_ends (pieces 10 bs)) (piece_grows b (pieces 10 bs))).1) ≤ suc (length bs)
    by_test true few = omega arith
    by_test false few = omega (arith, longer (pieces 10 bs).0 (pieces 10 bs).1)

-- a reply to each line
replies_on_grid : (side : ℕ) (past : List Call) (ls : List (List ℕ)) → length (on_grid side past ls) ≡ length ls
replies_on_grid side past [] = refl
replies_on_grid side past (l ∷ ls) = ap suc (replies_on_grid side (past ++ calls (understood l)) ls)

replies_from_start : (ls : List (List ℕ)) → length (from_start ls) ≡ length ls
replies_from_start [] = refl
replies_from_start (l ∷ ls) = ap suc (by_grid (opens (understood l)) (replies_from_start ls))
  where
    by_grid : (opened : Option ℕ) → length (from_start ls) ≡ length ls → length (behind opened (from_start ls) ls) ≡ length ls
    by_grid None same = same
    by_grid (Some side) same = replies_on_grid side [] ls

-- a number has at most 64 digits, since no more are written
digits_few : (k n : ℕ) (acc : List ℕ) → length (digits_onto k 10 false n acc) ≤ k + length acc
digits_few zero n acc = omega arith
digits_few (suc k) n acc = by_test (eqb (n / 10) 0) (digits_few k (n / 10) (digit_glyph false (n % 10) ∷ acc))
  where
    by_test : (last : Bool) → length (digits_onto k 10 false (n / 10) (digit_glyph false (n % 10) ∷ acc)) ≤ k + suc (length acc) → length (cond last (digit_glyph false (n % 10) ∷ acc) (digits_onto k 10 false (n / 10) (digit_glyph false (n % 10) ∷ acc))) ≤ suc k + length acc
    by_test true few = omega arith
    by_test false few = omega arith

decimal_few : (n : ℕ) → length (decimal n) ≤ 64
unfolding digits
decimal_few n = omega (arith, digits_few 64 n [])

text_few : (letter : ℕ) (outcome : Result (Option ℕ) Refused) → length (text_of letter outcome) ≤ 131
text_few letter (Ok None) = omega (arith, decimal_few 0)
text_few letter (Ok (Some n)) = omega (arith, decimal_few 0, decimal_few n, length-append (opening letter 0) (32 ∷ decimal n))
text_few letter (Err (Side refused)) = omega (arith, decimal_few (number (Side refused)))
text_few letter (Err (Sheet refused)) = omega (arith, decimal_few (number (Sheet refused)))
text_few letter (Err (Line refused)) = omega (arith, decimal_few (number (Line refused)))

texts_few : (rs : List Reply) → length (texts rs) ≤ 132 * length rs
texts_few [] = omega arith
texts_few (r ∷ rs) =
    omega (arith, texts_few rs, text_few r.letter r.outcome, length-append (line r) (texts rs), length-append (text_of r.letter r.outcome) (10 ∷ []))

-- 65,536 lines at most, each replied to by 132 bytes at most
pub session_counted : (input : List ℕ) → length (session input) < 2 ^ 64
session_counted input =
    let part = take 65536 input in
    omega (arith, texts_few (from_start (lines part)), replies_from_start (lines part), few_lines part, length-take 65536 input)
