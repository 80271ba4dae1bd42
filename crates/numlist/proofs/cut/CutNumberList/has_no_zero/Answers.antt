use Rattle.std.proofs.Common.{rules, ◌≡◌, ℕ, Bool, false, List, Ok, Err, Result, MatchResult, subst, arith}
use Rattle.bits.specs.Packing.{Narrow}
use Rattle.bits.specs.declared.width.Width.{Width}
use Rattle.bits.proofs.Words.{are_bytes}
use Rattle.numlist.specs.Lists.{Meaning, Sound}
use Rattle.numlist.specs.Cuts.{nonzero, verdict_of, cut}
use Rattle.numlist.specs.CutVerdicts.{passed}
use Rattle.numlist.specs.Placed.{NoEmpty}
use Rattle.numlist.specs.Shown.{SectionsIn}
use Rattle.numlist.specs.declared.count.Count.{Count}
use Rattle.numlist.specs.declared.fault.ListFault.{ListFault}
use Rattle.numlist.specs.declared.places.Sections.{Sections}
use Rattle.numlist.proofs.CutReads.{no_zero}
use Rattle.numlist.proofs.cut.CutNumberList.has_no_zero.Goals as goal

-- accepted bytes have the sections, and these tell
by_sections :
    (w : Width) (count : Count) (L : Meaning) → Sound L → (bytes : List ℕ) (n : ℕ) → Narrow 8 bytes
    → verdict_of w.bits L bytes count.numbers ≡ Ok n → (r : Result Sections ListFault) (told : Bool) → SectionsIn w count bytes r
    → MatchResult r (λ s. NoEmpty s.width.bits s.count.numbers s.bytes.now told) (λ _. told ≡ false)
    → told ≡ nonzero ((cut w.bits L).numbers bytes count.numbers)
by_sections w count L sound bytes n narrow accepted (Ok s) told same none =
    no_zero w.bits L w.low sound bytes count.numbers n narrow count.few accepted told
    (subst (λ (v : Width). NoEmpty v.bits count.numbers bytes told) same.0
    (subst (λ (k : Count). NoEmpty s.width.bits k.numbers bytes told) same.1
    (subst (λ (l : List ℕ). NoEmpty s.width.bits s.count.numbers l told) same.2 none)))
by_sections w count L sound bytes n narrow accepted (Err fault) told short none =
    absurd (omega (arith, short.0, (passed w.bits L bytes count.numbers n accepted).enough))

pub returns : goal.returns
returns g c n accepted =
    let s = c.args.self.now in
    let bytes = c.args.bytes.now in
    let told = c.is_ok_and.result in
    let none : MatchResult c.new.result (λ s. NoEmpty s.width.bits s.count.numbers s.bytes.now told) (λ _. told ≡ false) = search rules in
    by_sections s.width c.args.count (g.L.NumberList.meaning s.below) (g.met.L.NumberList.sound s.below) bytes n
    (are_bytes bytes c.type_inv.bytes) accepted c.new.result told c.new.ensures none
