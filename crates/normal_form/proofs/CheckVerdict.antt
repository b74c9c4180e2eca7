-- The result of an accepted check is the verdict by meaning: a leaf as root means itself, and any other root is satisfied by some sheet and not by another; of the three verdicts at most
-- one is right.
use Prim.Native.Nat.{ℕ}
use mathlib.Core.Path.{◌≡◌, refl, sym, ◌∙◌}
use mathlib.Core.Bool.{true≢false, false≢true, cond}
use mathlib.Core.List.{List}
use native.Mathlib.Omega.{arith}
use borrow.Author.Tests.{eq-eqb, ne_eqb}
use lib.Dec.{eqb}
use Rattle.terms.specs.Meaning.{Valuation}
use Rattle.terms.proofs.Cases.{by_eq}
use Rattle.std.specs.Prelude.{Ok}
use Rattle.store.specs.declared.verdict.Verdict.TheVariants.{Never, Always, Sometimes}
use Rattle.normal_form.specs.Accepted.{Accepted}
use Rattle.normal_form.specs.Check.{root_verdict, check}
use Rattle.normal_form.specs.Limits.{table_limits}
use Rattle.normal_form.specs.VerdictExact.{NoneSatisfies, EachSatisfies, SomeButNotAll, VerdictExact}
use Rattle.normal_form.proofs.EveryPath.{only_bare_leaves, leaf_means}
use Rattle.normal_form.proofs.RulesExactly.{after_85, passed_all}

module _ (t : List ℕ) (handle : ℕ) where
  never_or_always : NoneSatisfies t handle → EachSatisfies t handle → ⊥
  never_or_always n e = let v : Valuation = λ f. 0 in true≢false (sym (e v) ∙ n v)

  never_or_some : NoneSatisfies t handle → SomeButNotAll t handle → ⊥
  never_or_some n s = true≢false (sym s.0.1 ∙ n s.0.0)

  always_or_some : EachSatisfies t handle → SomeButNotAll t handle → ⊥
  always_or_some e s = false≢true (sym s.1.1 ∙ e s.1.0)

  is_never : NoneSatisfies t handle → VerdictExact t handle (Ok Never)
  is_never n = record {
    never = (λ _. n, λ _. refl);
    always = (λ e. absurd (let z : ◌≡◌ {A = ℕ} 0 1 = cc in omega arith), λ e. absurd (never_or_always n e));
    sometimes = (λ e. absurd (let z : ◌≡◌ {A = ℕ} 0 1 = cc in omega arith), λ s. absurd (never_or_some n s));
  }

  is_always : EachSatisfies t handle → VerdictExact t handle (Ok Always)
  is_always e = record {
    never = (λ d. absurd (let z : ◌≡◌ {A = ℕ} 0 1 = cc in omega arith), λ n. absurd (never_or_always n e));
    always = (λ _. e, λ _. refl);
    sometimes = (λ d. absurd (let z : ◌≡◌ {A = ℕ} 0 1 = cc in omega arith), λ s. absurd (always_or_some e s));
  }

  is_sometimes : SomeButNotAll t handle → VerdictExact t handle (Ok Sometimes)
  is_sometimes s = record {
    never = (λ d. absurd (let z : ◌≡◌ {A = ℕ} 0 1 = cc in omega arith), λ n. absurd (never_or_some n s));
    always = (λ d. absurd (let z : ◌≡◌ {A = ℕ} 0 1 = cc in omega arith), λ e. absurd (always_or_some e s));
    sometimes = (λ _. s, λ _. refl);
  }

module _ (t : List ℕ) (root : ℕ) (a : Accepted t root) where
  verdict_is : check table_limits t root ≡ Ok (root_verdict root)
  verdict_is = rw (passed_all t root a).1 at (after_85 t root (passed_all t root a).0)

  -- The result is the verdict by meaning.
  pub check_verdict : VerdictExact t root (check table_limits t root)
  check_verdict = rw verdict_is (by_eq (λ b. VerdictExact t root (Ok (cond b Never (cond (eqb root 1) Always Sometimes)))) root 0
      (λ z. is_never t root (λ v. leaf_means t root a (omega arith) v ∙ ne_eqb root 1 (omega arith)))
      (λ n. by_eq (λ b. VerdictExact t root (Ok (cond b Always Sometimes))) root 1
      (λ o. is_always t root (λ v. leaf_means t root a (omega arith) v ∙ eq-eqb root 1 o))
      (λ o. is_sometimes t root (only_bare_leaves t root a (omega arith)))))
