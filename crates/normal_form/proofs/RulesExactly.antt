-- 86 is Definition 28: of a table and a root that pass 81 to 85, some rule applies in the root's diagram exactly if the last test fails. So a table is accepted exactly if it passes the
-- first five conditions and no rule applies.
use Prim.Native.Nat.{ℕ}
use mathlib.Core.Path.{◌≡◌, refl, sym, ◌∙◌}
use mathlib.Core.Bool.{Bool, true, false, cond}
use mathlib.Core.Logic.{◌≢◌, ◌↔◌}
use mathlib.Core.List.{List}
use native.Mathlib.Omega.{arith}
use Rattle.store.specs.Sound.{all_below}
use Rattle.terms.proofs.Cases.{by_test}
use Rattle.normal_form.specs.declared.answer.CheckFault.{CheckFault}
use Rattle.normal_form.specs.declared.answer.CheckFault.TheVariants.{BadShape, BadTerm, HandleNotLower, EqualEntries, NotReachable, RuleApplies}
use Rattle.normal_form.specs.CheckAnswer.{CheckAnswer}
use Rattle.std.specs.Prelude.{Ok, Err}
use Rattle.normal_form.specs.Accepted.{Passes81To85, Accepted}
use Rattle.normal_form.specs.Check.{shape_kept, terms_kept, handles_lower, entries_differ, all_reachable, no_rule_applies, root_verdict, check_diagram, check_entries, check}
use Rattle.normal_form.specs.Limits.{table_limits}
use Rattle.normal_form.specs.Rules.{Applies}
use Rattle.normal_form.specs.Table.{entry_count, entry}
use Rattle.normal_form.specs.Tree.{tree}
use Rattle.normal_form.proofs.PassesKept.{passes_kept}
use Rattle.normal_form.proofs.NormalTable.{fails_applies, passes_none}

-- a condition that is tested first: the answer is no refusal only if it passes, and then what comes after it answers
passes_and : (b : Bool) (x : CheckAnswer) (f : CheckFault) → ((g : CheckFault) → cond b x (Err f) ≢ Err g) → (b ≡ true) × ((g : CheckFault) → x ≢ Err g)
passes_and true x f a = (refl, a)
passes_and false x f a = absurd (a f refl)

verdict_accepts : (root : ℕ) (f : CheckFault) → ◌≡◌ {A = CheckAnswer} (Ok (root_verdict root)) (Err f) → ⊥
verdict_accepts root f e = let z : ◌≡◌ {A = ℕ} 0 1 = cc in omega arith

module _ (t : List ℕ) (root : ℕ) where
  -- what is left of the check after 85
  pub after_85 : Passes81To85 t root → check table_limits t root ≡ cond (no_rule_applies table_limits t) (Ok (root_verdict root)) (Err RuleApplies)
  unfolding check_diagram check_entries check
  after_85 p = rw (p.passes_81, p.passes_82, p.passes_83, p.passes_84, p.passes_85) refl

  pub passed_all : Accepted t root → Passes81To85 t root × (no_rule_applies table_limits t ≡ true)
  unfolding check_diagram check_entries check
  passed_all a =
      let each = all_below (entry_count t) in
      let a₁ = passes_and (shape_kept table_limits t root) _ BadShape a in
      let a₂ = passes_and (each (λ i. terms_kept table_limits (entry t i))) _ BadTerm a₁.1 in
      let a₃ = passes_and (each (λ i. handles_lower (entry t i) i)) _ HandleNotLower a₂.1 in
      let a₄ = passes_and (entries_differ t (entry_count t)) _ EqualEntries a₃.1 in
      let a₅ = passes_and (all_reachable table_limits t root) _ NotReachable a₄.1 in
      let a₆ = passes_and (no_rule_applies table_limits t) (Ok (root_verdict root)) RuleApplies a₅.1 in
      (record { passes_81 = a₁.0; passes_82 = a₂.0; passes_83 = a₃.0; passes_84 = a₄.0; passes_85 = a₅.0 }, a₆.0)

  -- 86 is Definition 28: of a table and a root that pass 81 to 85, it is given exactly if some rule applies in the root's diagram.
  pub rules_exactly : Passes81To85 t root → (check table_limits t root ≡ Err RuleApplies) ↔ Applies (tree t root)
  rules_exactly p = by_test (λ b. no_rule_applies table_limits t ≡ b → (check table_limits t root ≡ Err RuleApplies) ↔ Applies (tree t root)) (no_rule_applies table_limits t)
      (λ _ b. (λ e. absurd (verdict_accepts root RuleApplies (sym (rw b at (after_85 p)) ∙ e)), λ r. absurd (passes_none (passes_kept t root p) b r)))
      (λ _ b. (λ _. fails_applies (passes_kept t root p) b, λ _. rw b at (after_85 p))) refl

  -- "Accept a table and root exactly if no error below is met."
  pub accepted_exactly : Accepted t root ↔ (Passes81To85 t root × (Applies (tree t root) → ⊥))
  accepted_exactly = (
    λ a. let p = passed_all a in (p.0, passes_none (passes_kept t root p.0) p.1),
    λ p f e. by_test (λ b. no_rule_applies table_limits t ≡ b → ⊥) (no_rule_applies table_limits t)
        (λ _ b. verdict_accepts root f (sym (rw b at (after_85 p.0)) ∙ e)) (λ _ b. p.1 (fails_applies (passes_kept t root p.0) b)) refl,
  )
