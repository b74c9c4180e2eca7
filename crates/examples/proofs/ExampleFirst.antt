-- An example that is written is the least sheet of a choice of counts that satisfies the handle. As a choice of counts it is that choice again, on the fields that
-- the handle reads; and a sheet before it is the sheet of a choice that comes before, which fails the handle.
use Rattle.std.specs.Prelude.{Some, None, Err}
use Prim.Native.Nat.{ℕ, ◌+◌, ◌-◌, ◌≤◌, ◌<◌}
use mathlib.Core.Path.{◌≡◌, refl, sym, ap, ◌∙◌, subst}
use mathlib.Core.Bool.{true, false, cond, true≢false}
use mathlib.Core.Logic.{◌≢◌}
use mathlib.Core.List.{List}
use native.Mathlib.Omega.{arith}
use borrow.Author.Tests.{ltb-true}
use lib.Dec.{eqb}
use lib.ListN.{length, get_or}
use lib.Seq.{ext_get_or}
use Rattle.examples.specs.declared.answer.ExampleFault.{ExampleFault}
use Rattle.examples.specs.declared.answer.ExampleFault.TheVariants.{NoHandle, WrongLength, Nothing}
use Rattle.examples.specs.Best.{sheet, Best}
use Rattle.examples.specs.Example.{given, best_sheet, example}
use Rattle.examples.specs.ExampleAnswers.{FirstExample, NothingFits, ExampleAnswers}
use Rattle.examples.specs.ExampleSays.{ExampleSays}
use Rattle.facts.specs.Least.{IsLeast}
use Rattle.facts.specs.State.{at}
use Rattle.reading.specs.Sheet.{sheet_counts}
use Rattle.store.specs.Layout.{field_count, used, leaves, is_handle}
use Rattle.store.specs.Meaning.{meaning}
use Rattle.store.specs.Outcome.{outcome}
use Rattle.store.specs.Sound.{sound}
use Rattle.store.specs.SoundParts.{Sound}
use Rattle.terms.specs.declared.limits.Limits.{Limits}
use Rattle.terms.specs.declared.term.Field.{Field}
use Rattle.terms.specs.Meaning.{Valuation}
use Rattle.terms.specs.Order.{lex}
use Rattle.terms.specs.Words.{field}
use Rattle.examples.proofs.ExampleBound.{example_within_gap}
use Rattle.examples.proofs.ExampleMeans.{example_says}
use Rattle.examples.proofs.SheetOrder.{least_not_after}
use Rattle.examples.proofs.Sheets.{counts_length}
use Rattle.examples.proofs.Sheets.{counts_at}
use Rattle.store.proofs.MeaningRests.{same_meaning, same_question}
use Rattle.store.proofs.SoundFacts.{sound_says}
use Rattle.terms.proofs.Cases.{by_test, by_eq}
use Rattle.terms.proofs.SimplifyTruth.{count_field}

-- ---- a sheet and a choice of counts
sheet_length : (n : ℕ) (v : Valuation) → length (sheet n v) ≡ n
sheet_length n v = counts_length n 1 (at v)

-- a list of n counts is the sheet of the choice that it gives
sheet_of_list : (xs : List ℕ) (n : ℕ) → length xs ≡ n → sheet n (sheet_counts xs) ≡ xs
sheet_of_list xs n e = ext_get_or 0 (sheet n (sheet_counts xs)) xs (sheet_length n (sheet_counts xs) ∙ sym e) (λ k h.
    let low : k < n = omega (arith, h, sheet_length n (sheet_counts xs)) in
    let back : 1 + k - 1 ≡ k = omega arith in
    counts_at n 1 k (at (sheet_counts xs)) low ∙ count_field (sheet_counts xs) (field (1 + k)) (λ z. omega arith) ∙ ap (λ (i : ℕ). get_or xs i 0) back)

-- the sheet of a choice of counts gives that choice again, on the fields 1 to n
choice_of_sheet : (n : ℕ) (v : Valuation) (f : Field) → 1 ≤ f.0 → f.0 ≤ n → sheet_counts (sheet n v) f ≡ v f
choice_of_sheet n v f first last =
    let forth : 1 + (f.0 - 1) ≡ f.0 = omega arith in
    counts_at n 1 (f.0 - 1) (at v) (omega arith) ∙ ap (at v) forth ∙ count_field v f (λ z. omega arith)

-- ---- a handle of a sound store
module _ (limits : Limits) (s : List ℕ) (is : sound limits s ≡ true) (handle : ℕ) (out : List ℕ) where
  snd : Sound limits s
  snd = sound_says limits s is

  abbrev n : ℕ
  n = field_count s

  module _ (u : is_handle s handle ≡ true) where
    handle_in : handle < used s + leaves
    handle_in = ltb-true handle (used s + leaves) u

    same_choice : (v : Valuation) → meaning s handle (sheet_counts (sheet n v)) ≡ meaning s handle v
    same_choice v = same_meaning snd (sheet_counts (sheet n v)) v (same_question snd (sheet_counts (sheet n v)) v (choice_of_sheet n v)) handle handle_in

    first_example : (v : Valuation) → IsLeast n (λ w. meaning s handle w ≡ true) v → FirstExample s handle (sheet n v)
    first_example v least = record {
      has_handle = u;
      right_length = sheet_length n v;
      satisfies = same_choice v ∙ least.meets;
      first = λ other e before. by_test (λ t. t ≡ false) (meaning s handle (sheet_counts other))
          (λ m. absurd (true≢false (sym before ∙ ap (λ y. lex y (sheet n v)) (sym (sheet_of_list other n e))
          ∙ least_not_after n (λ w. meaning s handle w ≡ true) v least (sheet_counts other) m)))
          (λ _. refl);
      within = λ i l.
          let bound = example_within_gap snd handle handle_in v least (1 + i) (omega arith) in
          omega (arith, bound, counts_at n 1 i (at v) l);
    }

    -- by the best sheet over all paths
    given_answers : length out ≡ n → (b : Best) → ExampleSays n (meaning s handle) b → ExampleAnswers s handle out (given b out)
    given_answers e None says = record {
      written = λ d. absurd (cc);
      none = (
        λ _. record {
          has_handle = u;
          right_length = e;
          nothing = λ v. by_test (λ t. t ≡ false) (meaning s handle v) (λ m. absurd (says v m)) (λ _. refl);
        },
        λ _. refl,
      );
    }
    given_answers e (Some x) says = record {
      written = λ _. subst (FirstExample s handle) (sym says.2) (first_example says.0 says.1);
      none = (λ d. absurd (cc), λ fits. absurd (true≢false (sym says.1.meets ∙ fits.nothing says.0)));
    }

  -- a refusal before 52
  refused_answers : (f : ExampleFault) → f ≢ Nothing → (NothingFits s handle out → ⊥) → ExampleAnswers s handle out (outcome (Err f) out)
  refused_answers f other not_fits = record {
    written = λ d. absurd (cc);
    none = (λ d. absurd (other (cc)), λ fits. absurd (not_fits fits));
  }

  pub example_answers : ExampleAnswers s handle out (example limits s handle out)
  unfolding example
  example_answers = rw is (by_test (λ t. ExampleAnswers s handle out
      (cond t (cond (eqb (length out) n) (given (best_sheet s handle) out) (outcome (Err WrongLength) out)) (outcome (Err NoHandle) out)))
      (is_handle s handle)
      (λ u. by_eq (λ t. ExampleAnswers s handle out (cond t (given (best_sheet s handle) out) (outcome (Err WrongLength) out))) (length out) n
      (λ e. given_answers u e (best_sheet s handle) (example_says snd handle (handle_in u) n))
      (λ d. refused_answers WrongLength (λ e. cc) (λ fits. d fits.right_length)))
      (λ d. refused_answers NoHandle (λ e. cc) (λ fits. true≢false (sym fits.has_handle ∙ d))))
