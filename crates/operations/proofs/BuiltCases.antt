-- A claim about what comes after an answer holds if it holds after each handle and after each refusal: an answer is one of the two.
use Prim.Native.Nat.{ℕ}
use mathlib.Core.Path.{◌≡◌, refl}
use native.Mathlib.Omega.{arith}
use Rattle.operations.specs.declared.answer.BuildFault.{BuildFault}
use Rattle.operations.specs.Built.{Built, if_built}
use Rattle.std.specs.Prelude.{Ok, Err}

pub built_cases : {A : Type 0} (P : A → Type 0) (b : Built) (next : ℕ → A) (stop : BuildFault → A)
    → ((h : ℕ) → b ≡ Ok h → P (next h)) → ((f : BuildFault) → b ≡ Err f → P (stop f)) → P (if_built b next stop)
built_cases P (Ok h) next stop accepted stopped = accepted h refl
built_cases P (Err f) next stop accepted stopped = stopped f refl

-- a handle is no refusal
pub not_both : {b : Built} {h : ℕ} {f : BuildFault} → b ≡ Ok h → b ≡ Err f → ⊥
not_both d e = let z : ◌≡◌ {A = ℕ} 0 1 = cc in omega arith
