use Rattle.std.proofs.Common.{◌≡◌, ℕ, ◌+◌, ◌-◌, drop, sum, sym, ap, ◌∙◌, arith}
use Rattle.bits.specs.Packing.{digits, unpacked}
use Rattle.bits.proofs.Words.{are_bytes}
use Rattle.bits.proofs.counting.few_ones.Goals as goal

pub returns : goal.returns
unfolding digits
returns c =
    let from = c.args.from in
    let count = c.args.count in
    let marks : ℕ → ℕ → ℕ = λ k p. sum (unpacked 1 k (drop p c.args.bytes.now)) in
    let bytes = c.args.bytes.now in
    let narrow = are_bytes bytes c.type_inv.bytes in
    let few = (c.if-not-are_four_words.ensures tt).0 in
    let left-2 : c.saturating_sub.result - 64 ≡ c.saturating_sub-2.result = omega (arith, c.saturating_sub.ensures, c.saturating_sub-2.ensures) in
    let left-3 : c.saturating_sub-2.result - 64 ≡ c.saturating_sub-3.result = omega (arith, c.saturating_sub-2.ensures, c.saturating_sub-3.ensures) in
    let left-4 : c.saturating_sub-3.result - 64 ≡ 0 = omega (arith, c.saturating_sub-3.ensures, few) in
    let at-2 : from + 8 + 8 ≡ from + 16 = omega arith in
    let at-3 : from + 16 + 8 ≡ from + 24 = omega arith in
    let first : marks count from ≡ c.first_ones-first.result + marks c.saturating_sub.result (from + 8) =
    c.first_ones-first.ensures.counted bytes (from) narrow c.whole_word.ensures ∙ ap (λ k. c.first_ones-first.result + marks k (from + 8)) (sym c.saturating_sub.ensures) in
    let second : marks c.saturating_sub.result (from + 8) ≡ c.first_ones-second.result + marks c.saturating_sub-2.result (from + 16) =
    c.first_ones-second.ensures.counted bytes (from + 8) narrow c.whole_word-2.ensures ∙ (λ i. c.first_ones-second.result + marks (left-2 i) (at-2 i)) in
    let third : marks c.saturating_sub-2.result (from + 16) ≡ c.first_ones-third.result + marks c.saturating_sub-3.result (from + 24) =
    c.first_ones-third.ensures.counted bytes (from + 16) narrow c.whole_word-3.ensures ∙ (λ i. c.first_ones-third.result + marks (left-3 i) (at-3 i)) in
    let last : marks c.saturating_sub-3.result (from + 24) ≡ c.first_ones-last.result + 0 =
    c.first_ones-last.ensures.counted bytes (from + 24) narrow c.whole_word-4.ensures ∙ ap (λ k. c.first_ones-last.result + marks k (from + 24 + 8)) left-4 in
    omega (arith, first, second, third, last)
