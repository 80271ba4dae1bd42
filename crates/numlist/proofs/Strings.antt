-- Strings of equally many numbers: none is the beginning of another. Assumes nothing.
use Rattle.std.proofs.Common.{◌≡◌, ℕ, ◌≤◌, List, ◌++◌, length, sym, ◌∙◌}
use Rattle.bits.specs.Packing.{Narrow}
use Rattle.numlist.specs.Lists.{Meaning, Sound, most}

pub none_begins_another :
    (L : Meaning) → Sound L → (xs ys rest rest' : List ℕ) → Narrow L.reach xs → Narrow L.reach ys
    → length xs ≤ most → length xs ≡ length ys → L.string xs ++ rest ≡ L.string ys ++ rest' → xs ≡ ys
none_begins_another L sound xs ys rest rest' nx ny few same e =
    sym (sound.back xs rest nx few)
    ∙ (λ i. L.numbers (e i) (same i))
    ∙ sound.back ys rest' ny (rw same at few)
