-- For either order, and any store that an opening in it and any calls have led to: the opening leaves a sound store that names its order, no call changes
-- the number of fields or the order, and every handle in the ledger keeps the finished diagram of its rule. So what verdict, reading and example
-- say of a handle in a sound store they say of the rule.
use Prim.Native.Nat.{ℕ, ◌+◌}
use mathlib.Core.Path.{◌≡◌, refl, sym, ap, ◌∙◌}
use mathlib.Core.Logic.{inl, inr}
use mathlib.Core.Bool.{Bool, true}
use mathlib.Core.List.{List}
use borrow.Author.Tests.{lt-ltb, ltb-true, eq-eqb}
use lib.ListN.{length}
use Rattle.examples.specs.Best.{Best}
use Rattle.examples.specs.Example.{given, best_sheet, example}
use Rattle.examples.specs.ExampleAnswers.{ExampleAnswers}
use Rattle.operations.specs.Handles.{Call, Pair, Books, opened_books, run, In}
use Rattle.operations.specs.Kept.{Kept}
use Rattle.operations.specs.Later.{Later}
use Rattle.reading.specs.Read.{read_sheet}
use Rattle.reading.specs.ReadExactly.{ReadExactly}
use Rattle.reading.specs.Sheet.{sheet_counts}
use Rattle.runs.specs.InOrder.{InOrder}
use Rattle.runs.specs.SheetOrNone.{SheetOrNone}
use Rattle.runs.specs.RuleExample.{RuleExample}
use Rattle.std.specs.Prelude.{Ok, Err, Some, None}
use Rattle.store.specs.Layout.{field_count, used, leaves, is_handle}
use Rattle.store.specs.Meaning.{meaning}
use Rattle.store.specs.Open.{opening}
use Rattle.store.specs.Sound.{sound}
use Rattle.terms.specs.declared.limits.Limits.{Limits}
use Rattle.terms.specs.declared.order.ListOrder.{ListOrder}
use Rattle.terms.specs.Meaning.{Valuation}
use Rattle.terms.specs.Order.{order_number}
use Rattle.store.specs.declared.verdict.Verdict.TheVariants as verdicts
use Rattle.verdicts.specs.Verdict.{VerdictAnswer, verdict}
use Rattle.verdicts.specs.VerdictSays.{VerdictSays}
use Rattle.examples.proofs.ExampleFirst.{example_answers}
use Rattle.operations.proofs.HandleLaw.{opened_kept, kept_law, run_kept}
use Rattle.operations.proofs.RunLater.{run_later}
use Rattle.operations.proofs.StandingDiagrams.{stands_means}
use Rattle.reading.proofs.ReadMeans.{read_exactly}
use Rattle.reading.proofs.SameReading.{exactly_alike}
use Rattle.store.proofs.OpenedWords.{opened_fields, opened_order}
use Rattle.store.proofs.SoundFacts.{sound_from}
use Rattle.verdicts.proofs.VerdictMeans.{verdict_says}

-- what a verdict says of a meaning it says of one that is alike in truth
says_alike : (d : VerdictAnswer) {means others : Valuation → Bool} → ((v : Valuation) → means v ≡ others v) → VerdictSays d means → VerdictSays d others
says_alike (Ok verdicts.Never) e d = λ v. sym (e v) ∙ d v
says_alike (Ok verdicts.Always) e d = λ v. sym (e v) ∙ d v
says_alike (Ok verdicts.Sometimes) e d = ((d.0.0, sym (e d.0.0) ∙ d.0.1), (d.1.0, sym (e d.1.0) ∙ d.1.1))
says_alike (Err f) e d = d

module _ (limits : Limits) (order : ListOrder) (n : ℕ) (list s : List ℕ) (e : opening limits n (order_number order) list (length s) ≡ Ok tt)
    (calls : List Call) where
  -- the books after the opening, and after the calls
  abbrev books₀ : Books
  books₀ = opened_books n (order_number order) list (length s)

  abbrev books : Books
  books = run limits books₀ calls

  kept : Kept limits books
  kept = run_kept limits n (order_number order) list s e calls

  later : Later limits books₀.words books.words
  later = run_later books₀ (opened_kept limits n (order_number order) list s e).sound calls

  is : sound limits books.words ≡ true
  is = sound_from limits books.words kept.sound

  pub run_in_order : InOrder limits order n books
  run_in_order = record {
    sound = kept.sound;
    order_is = later.same_order ∙ opened_order n (order_number order) list (length s);
    fields = later.same_fields ∙ opened_fields n (order_number order) list (length s);
    law = kept_law kept;
    means = λ p i. stands_means kept.sound (kept.each p i);
  }

  -- ---- any handle of the store's
  pub verdict_in_order : (handle : ℕ) → is_handle books.words handle ≡ true
      → VerdictSays (verdict limits books.words handle) (meaning books.words handle)
  verdict_in_order handle u = verdict_says limits books.words handle is (ltb-true handle (used books.words + leaves) u)

  pub example_in_order : (handle : ℕ) (out : List ℕ) → ExampleAnswers books.words handle out (example limits books.words handle out)
  example_in_order = example_answers limits books.words is

  -- with n words lent, a handle of the store's gets a sheet or 52
  pub example_answered : (handle : ℕ) (out : List ℕ) → is_handle books.words handle ≡ true → length out ≡ n → SheetOrNone (example limits books.words handle out)
  unfolding example
  example_answered handle out u l = go (best_sheet books.words handle) refl
    where
      answer_is : example limits books.words handle out ≡ given (best_sheet books.words handle) out
      answer_is = rw (is, u, eq-eqb (length out) (field_count books.words) (l ∙ sym run_in_order.fields))

      go : (b : Best) → best_sheet books.words handle ≡ b → SheetOrNone (example limits books.words handle out)
      go None d = inr (ap (λ o. o.answer) (answer_is ∙ ap (λ b. given b out) d))
      go (Some x) d = inl (ap (λ o. o.answer) (answer_is ∙ ap (λ b. given b out) d))

  -- ---- a rule of the ledger's
  module _ (p : Pair) (i : In p books.ledger) where
    has_handle : is_handle books.words p.handle ≡ true
    has_handle = lt-ltb p.handle (used books.words + leaves) (kept.each p i).handle_in

    pub verdict_of_rule : VerdictSays (verdict limits books.words p.handle) p.rule
    verdict_of_rule = says_alike (verdict limits books.words p.handle) (run_in_order.means p i) (verdict_in_order p.handle has_handle)

    -- each result exactly if it is right of the rule under the sheet's fillings
    pub read_of_rule : (sheet : List ℕ) → length sheet ≡ n → ReadExactly sheet p.rule (read_sheet limits books.words p.handle sheet)
    read_of_rule sheet l =
        exactly_alike sheet (meaning books.words p.handle) p.rule (λ v _. run_in_order.means p i v)
        (read_exactly limits books.words is p.handle has_handle sheet (l ∙ sym run_in_order.fields))

    pub example_of_rule : (out : List ℕ) → length out ≡ n → RuleExample n p.rule (example limits books.words p.handle out)
    example_of_rule out l =
        let sheet = (example limits books.words p.handle out).words in
        let means = run_in_order.means p i in
        let answers = example_in_order p.handle out in
        elim (example_answered p.handle out has_handle l) [
          | inl written ↦
              let f = answers.written written in
              inl (
                written,
                record {
                  right_length = f.right_length ∙ run_in_order.fields;
                  satisfies = sym (means (sheet_counts sheet)) ∙ f.satisfies;
                  first = λ other k before. sym (means (sheet_counts other)) ∙ f.first other (k ∙ sym run_in_order.fields) before;
                },
              )
          | inr none_given ↦ inr (none_given, λ v. sym (means v) ∙ (answers.none.0 none_given).nothing v)
        ]
