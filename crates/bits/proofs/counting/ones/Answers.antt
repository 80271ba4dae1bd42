use Rattle.std.proofs.Common.{◌≡◌, ℕ, zero, suc, refl, List, Fits, w8, min, get_or, length-take, ◌<◌, ◌^◌, ◌+◌, ◌-◌, ◌*◌, ◌/◌, ◌%◌, ◌≤◌, length, take, drop, sum, sym, ap, ◌∙◌, subst, arith}
use lib.Count.{ones}
use Rattle.std.proofs.ByRecursion.{All-drop}
use Rattle.bits.specs.Packing.{value, digits, unpacked, Narrow}
use Rattle.bits.proofs.Words.{are_bytes, rest_is, chunk_word}
use Rattle.bits.proofs.Counts.{word_marks, past_marks, marks-le}
use Rattle.bits.proofs.counting.ones.Goals as goal

pub loop-word-init : goal.loop-word-init
loop-word-init c =
    let rest = take (length c.args.bytes.now - c.min.result) (drop c.min.result c.args.bytes.now) in
    let all : c.args.count - 64 * 0 ≡ c.args.count = omega arith in
    omega (arith, ap (λ n. sum (unpacked 1 n rest)) all)

narrow_rest : (bytes : List ℕ) (from start : ℕ) → ((i : ℕ) → Fits w8 (get_or bytes i 0)) → start ≡ min from (length bytes) → Narrow 8 (take (length bytes - start) (drop start bytes))
narrow_rest bytes from start fits is = subst (Narrow 8) (sym (rest_is bytes from start is)) (All-drop (λ x. x < 2 ^ 8) from bytes (are_bytes bytes fits))

-- the marks of the word at which the loop stands
step :
    (c : goal.After-from_le_bytes)
    → let rest = take (length c.args.bytes.now - c.min.result) (drop c.min.result c.args.bytes.now) in
    let i = c.loop-word.word-index in
    sum (unpacked 1 (c.args.count - 64 * i) (drop (8 * i) rest))
    ≡ ones c.from_le_bytes.result + sum (unpacked 1 (c.args.count - 64 * (i + 1)) (drop (8 * (i + 1)) rest))
step c =
    let bytes = c.args.bytes.now in
    let rest = take (length bytes - c.min.result) (drop c.min.result bytes) in
    let i = c.loop-word.word-index in
    let left = c.args.count - 64 * i in
    let words : i < c.min-words.result = omega (arith, length-take {A = List ℕ}) in
    let more : 64 ≤ left = omega arith in
    let less : left - 64 ≡ c.args.count - 64 * (i + 1) = omega arith in
    let next : 8 * i + 8 ≡ 8 * (i + 1) = omega arith in
    let narrow = narrow_rest bytes c.args.from c.min.result c.type_inv.bytes c.min.ensures in
    let is : c.from_le_bytes.result ≡ value 8 rest / 2 ^ (8 * (8 * i)) % 2 ^ 64 =
    c.from_le_bytes.ensures ∙ chunk_word rest _ c.min-words.result i c.as_chunks.result.0.now narrow (omega arith) words c.as_chunks.ensures.front
    in
    word_marks rest (8 * i) left narrow more
    ∙ (λ j. ones (sym is j) + sum (unpacked 1 (less j) (drop (next j) rest)))

pub loop-word-preserved : goal.loop-word-preserved
loop-word-preserved c = omega (arith, step c, c.loop-word.invariant)

pub overflow_add-ones : goal.overflow_add-ones
overflow_add-ones c =
    let rest = take (length c.args.bytes.now - c.min.result) (drop c.min.result c.args.bytes.now) in
    omega (arith, step c, c.loop-word.invariant, marks-le c.args.count (value 8 rest))

-- behind the last word there are no bytes, or no more marks are asked for
no_more : (rest : List ℕ) (more from : ℕ) → (0 < more → length rest ≤ from) → sum (unpacked 1 more (drop from rest)) ≡ 0
unfolding digits
no_more rest zero from past = refl
no_more rest (suc more) from past = past_marks rest from (suc more) (past (omega arith))

-- the marks of the last word
last : (c : goal.After-first_ones) → c.loop-word.ones + c.first_ones.result ≡ sum (unpacked 1 c.args.count (drop c.args.from c.args.bytes.now))
last c =
    let bytes = c.args.bytes.now in
    let rest = take (length bytes - c.min.result) (drop c.min.result bytes) in
    let words = c.min-words.result in
    let end : c.loop-word.word-index ≡ words = omega (arith, length-take {A = List ℕ}) in
    let narrow = narrow_rest bytes c.args.from c.min.result c.type_inv.bytes c.min.ensures in
    let left = c.args.count - 64 * words in
    let behind : sum (unpacked 1 (left - 64) (drop (8 * words + 8) rest)) ≡ 0 = no_more rest (left - 64) (8 * words + 8) (λ h. omega arith) in
    let counted : sum (unpacked 1 left (drop (8 * words) rest)) ≡ c.first_ones.result + sum (unpacked 1 (left - 64) (drop (8 * words + 8) rest)) =
    c.first_ones.ensures.counted rest (8 * words) narrow c.word.ensures in
    let done = subst (λ i. c.loop-word.ones + sum (unpacked 1 (c.args.count - 64 * i) (drop (8 * i) rest)) ≡ sum (unpacked 1 c.args.count rest)) end c.loop-word.invariant in
    let whole : c.loop-word.ones + c.first_ones.result ≡ sum (unpacked 1 c.args.count rest) = omega (arith, done, counted, behind) in
    whole ∙ ap (λ l. sum (unpacked 1 c.args.count l)) (rest_is bytes c.args.from c.min.result c.min.ensures)

pub overflow_add-result : goal.overflow_add-result
overflow_add-result c = omega (arith, last c, marks-le c.args.count (value 8 (drop c.args.from c.args.bytes.now)))

pub returns : goal.returns
returns c = last c
