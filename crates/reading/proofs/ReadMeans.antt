-- Reading is right by meaning: the leaves reached with the facts of the sheet say what the handle means under the choices of counts that fit these facts, and these are
-- the fillings. Of the three results at most one is right, as the sheet has a filling.
use Prim.Native.Nat.{ℕ, ◌+◌}
use mathlib.Core.Path.{◌≡◌, refl, sym, ◌∙◌}
use mathlib.Core.Logic.{◌↔◌}
use mathlib.Core.Bool.{Bool, true, false, true≢false, false≢true}
use mathlib.Core.List.{List}
use native.Mathlib.Omega.{arith}
use borrow.Author.Tests.{ltb-true, eq-eqb}
use lib.ListN.{length}
use Rattle.std.specs.Prelude.{Ok}
use Rattle.facts.specs.Facts.{Fits}
use Rattle.reading.specs.declared.answer.Reading.TheVariants.{Fails, Satisfies, Depends}
use Rattle.reading.specs.Blanks.{Fills, sheet_facts}
use Rattle.reading.specs.Read.{reached_by, read_by, read_sheet}
use Rattle.reading.specs.ReadExactly.{EveryFilling, SomeFilling, ReadExactly}
use Rattle.reading.specs.Sheet.{sheet_counts}
use Rattle.store.specs.Layout.{field_count, used, leaves, is_handle}
use Rattle.store.specs.Meaning.{meaning}
use Rattle.store.specs.Sound.{sound}
use Rattle.terms.specs.declared.limits.Limits.{Limits}
use Rattle.terms.specs.Meaning.{Valuation}
use Rattle.store.proofs.SoundFacts.{sound_says}
use Rattle.verdicts.proofs.LeavesMean.{by_leaves_says}
use Rattle.reading.proofs.SheetFacts.{sheet_facts_exact, itself_fills, up_to_free}

-- ---- each result, where it is right
module _ (sheet : List ℕ) (means : Valuation → Bool) where
  none_or_every : EveryFilling sheet means false → EveryFilling sheet means true → ⊥
  none_or_every none every = true≢false (sym (every (sheet_counts sheet) (itself_fills sheet)) ∙ none (sheet_counts sheet) (itself_fills sheet))

  none_or_some : EveryFilling sheet means false → SomeFilling sheet means true → ⊥
  none_or_some none some = true≢false (sym some.2 ∙ none some.0 some.1)

  every_or_some : EveryFilling sheet means true → SomeFilling sheet means false → ⊥
  every_or_some every some = false≢true (sym some.2 ∙ every some.0 some.1)

  pub fails_exactly : EveryFilling sheet means false → ReadExactly sheet means (Ok Fails)
  fails_exactly none = record {
    accepted = refl;
    one_of_three = omega arith;
    one = (λ e. absurd (omega arith), λ every. absurd (none_or_every none every));
    zero = (λ _. none, λ _. refl);
    two = (λ e. absurd (omega arith), λ some. absurd (none_or_some none some.0));
  }

  pub satisfies_exactly : EveryFilling sheet means true → ReadExactly sheet means (Ok Satisfies)
  satisfies_exactly every = record {
    accepted = refl;
    one_of_three = omega arith;
    one = (λ _. every, λ _. refl);
    zero = (λ e. absurd (omega arith), λ none. absurd (none_or_every none every));
    two = (λ e. absurd (omega arith), λ some. absurd (every_or_some every some.1));
  }

  depends_exactly : SomeFilling sheet means true → SomeFilling sheet means false → ReadExactly sheet means (Ok Depends)
  depends_exactly satisfying failing = record {
    accepted = refl;
    one_of_three = omega arith;
    one = (λ e. absurd (omega arith), λ every. absurd (every_or_some every failing));
    zero = (λ e. absurd (omega arith), λ none. absurd (none_or_some none satisfying));
    two = (λ _. (satisfying, failing), λ _. refl);
  }

-- ---- the operation
module _ (limits : Limits) (s : List ℕ) (is : sound limits s ≡ true) (handle : ℕ) (u : is_handle s handle ≡ true) (sheet : List ℕ) (l : length sheet ≡ field_count s) where
  pub read_is : read_sheet limits s handle sheet ≡ Ok (read_by (reached_by s handle sheet))
  unfolding read_sheet
  read_is = rw (is, u, eq-eqb (length sheet) (field_count s) l) refl

  -- "Reading must answer 1 if every filling of the blanks with natural numbers, each by itself, satisfies the rule, 0 if none does, 2 otherwise.", in any sound store
  pub read_exactly : ReadExactly sheet (meaning s handle) (read_sheet limits s handle sheet)
  read_exactly =
      let means = meaning s handle in
      let exact : (v : Valuation) → Fits (sheet_facts sheet) v ↔ Fills sheet v = sheet_facts_exact sheet in
      rw read_is
      (by_leaves_says (sound_says limits s is) handle (ltb-true handle (used s + leaves) u) (sheet_facts sheet) (up_to_free sheet (length sheet))
      (λ r. ReadExactly sheet means (Ok r)) Fails Satisfies Depends
      (λ none. fails_exactly sheet means (λ v k. none v ((exact v).1 k)))
      (λ every. satisfies_exactly sheet means (λ v k. every v ((exact v).1 k)))
      (λ x y. depends_exactly sheet means (x.0, (exact x.0).0 x.1, x.2) (y.0, (exact y.0).0 y.1, y.2)))
