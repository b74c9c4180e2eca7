-- At a formula's handle stands the finished diagram of its truth, with each letter's meaning for the letter: each call finishes what the formula says of
-- its parts. So two formulas that come out alike have one handle.
use Prim.Native.Nat.{ℕ}
use mathlib.Core.Path.{◌≡◌, sym, ap, ap₂, ◌∙◌}
use mathlib.Core.Bool.{cond, not, ◌&&◌}
use mathlib.Core.List.{List}
use lib.ListN.{length}
use Rattle.std.specs.Prelude.{Ok}
use Rattle.operations.specs.BooleanLaws.{Formula, formula_truth, BooleanLaw, Worked, is_letter, is_never, is_always, is_not, is_and, is_if, meanwhile}
use Rattle.operations.specs.Handles.{Call, negate, join, choose, answer_to, Rule, pair, rule_of, rule_of_call, Books, opened_books, after, run}
use Rattle.operations.specs.Kept.{Kept}
use Rattle.operations.specs.Stands.{Stands}
use Rattle.store.specs.Meaning.{meaning}
use Rattle.store.specs.Open.{opening}
use Rattle.terms.specs.declared.limits.Limits.{Limits}
use Rattle.terms.specs.Meaning.{Valuation}
use Rattle.operations.proofs.HandleLaw.{rule_is_meaning, call_answered, kept_after, run_kept}
use Rattle.operations.proofs.StandingDiagrams.{stands_alike, stands_later, stands_means, stands_exact, never_stands, always_stands}

-- a formula's truth under a choice of counts, each letter having the meaning of its handle at the start
abbrev rule_worked : (ℕ → ℕ) → Books → Formula → Rule
rule_worked letters start f v = formula_truth (λ x. meaning start.words (letters x) v) f

record Works (limits : Limits) (rule : Rule) (h : ℕ) (b : Books) : Type 0 where
  kept : Kept limits b
  stands : Stands b.words h rule

-- an accepted call for a meaning
call_works : {limits : Limits} {b : Books} → Kept limits b → (c : Call) (h : ℕ) → (answer_to limits b.words c).answer ≡ Ok h
    → {rule : Rule} → ((v : Valuation) → rule_of_call b.ledger b.words c v ≡ rule v) → Works limits rule h (after limits b c)
call_works k c h e alike = record { kept = kept_after k c; stands = stands_alike alike ((call_answered k c).stands h e) }

-- a handle's rule is what was worked out
given : {limits : Limits} {b : Books} {rule : Rule} {h : ℕ} → Works limits rule h b → (v : Valuation) → rule_of b.ledger b.words h v ≡ rule v
given {h = h} p v = sym (rule_is_meaning p.kept h v) ∙ stands_means p.kept.sound p.stands v

module _ {limits : Limits} {letters : ℕ → ℕ} {start : Books} (kept_start : Kept limits start) where
  works : {f : Formula} {h : ℕ} {b : Books} → Worked limits letters start f h b → Works limits (rule_worked letters start f) h b
  works (is_letter x {r = r} i) =
      let k = kept_start.each (pair (letters x) r) i in
      record { kept = kept_start; stands = stands_alike (λ v. sym (stands_means kept_start.sound k v)) k }
  works is_never = record { kept = kept_start; stands = never_stands kept_start.sound }
  works is_always = record { kept = kept_start; stands = always_stands kept_start.sound }
  works (is_not {a = a} {h = h} w e) =
      let p = works w in
      call_works p.kept (negate a) h e (λ v. ap not (given p v))
  works (is_and {a = a} {c = c} {h = h} w u e) =
      let p = works w in
      let q = works u in
      call_works p.kept (join a c) h e (λ v. ap₂ ◌&&◌ (given p v) (given q v))
  works (is_if {a = a} {c = c} {d = d} {h = h} w u t e) =
      let p = works w in
      let q = works u in
      let r = works t in
      call_works p.kept (choose a c d) h e (λ v i. cond (given p v i) (given q v i) (given r v i))
  works (meanwhile w c) =
      let p = works w in
      record { kept = kept_after p.kept c; stands = stands_later (call_answered p.kept c).later p.stands }

  -- "the two formulas give equal handles"
  pub kept_boolean_law : {f g : Formula} → BooleanLaw f g → {h k : ℕ} {b : Books} → Worked limits letters start f h b → Worked limits letters start g k b → h ≡ k
  kept_boolean_law law w u =
      let p = works w in
      let q = works u in
      (stands_exact p.kept.sound p.stands q.stands).1 (λ v. law (λ x. meaning start.words (letters x) v))

-- Worked out after any list of calls on a store that open has just accepted.
pub boolean_law : (limits : Limits) (n order : ℕ) (list s : List ℕ) → opening limits n order list (length s) ≡ Ok tt → (calls : List Call)
    → (letters : ℕ → ℕ) (f g : Formula) → BooleanLaw f g → (h k : ℕ) (b : Books)
    → Worked limits letters (run limits (opened_books n order list (length s)) calls) f h b
    → Worked limits letters (run limits (opened_books n order list (length s)) calls) g k b
    → h ≡ k
boolean_law limits n order list s e calls letters f g law h k b w u = kept_boolean_law (run_kept limits n order list s e calls) {f = f} {g = g} law w u
