-- What the operations finish rests on the store's questions only: a handle asks questions of the list, and each equation of an accepted table
-- simplifies, with its truth kept, to never, always or a question of the list.
use Prim.Native.Nat.{ℕ, zero, suc, ◌+◌, ◌-◌, ◌≤◌, ◌<◌}
use mathlib.Core.Path.{◌≡◌, refl, sym, ap, ap₂, ◌∙◌}
use mathlib.Core.Bool.{Bool, false, cond, not, ◌&&◌}
use mathlib.Core.List.{List, [], ◌∷◌, ◌++◌}
use mathlib.Core.Option.{none}
use native.Mathlib.Omega.{arith}
use lib.ListN.{get_or}
use Rattle.diagram.specs.Questions.{questions}
use Rattle.facts.specs.Least.{All}
use Rattle.operations.specs.Rests.{Rests}
use Rattle.store.specs.Layout.{field_count, question_count, question, used, leaves}
use Rattle.store.specs.Meaning.{meaning}
use Rattle.store.specs.SoundParts.{Sound}
use Rattle.tables.specs.declared.decoding.Shape.{Shape}
use Rattle.tables.specs.declared.decoding.Shape.TheVariants.{Leaf, Equation, Choice}
use Rattle.tables.specs.declared.row.Row.{Row}
use Rattle.tables.specs.Decoding.{decode, shape_truth}
use Rattle.tables.specs.Faults.{shape_fault, table_fault}
use Rattle.tables.specs.Rows.{row_count, row, row_truth, row_truths, rule_meaning}
use Rattle.terms.specs.declared.limits.Limits.{Limits}
use Rattle.terms.specs.declared.limits.TermLimits.{TermLimits}
use Rattle.terms.specs.declared.term.Field.{Field}
use Rattle.terms.specs.Limits.{terms_within}
use Rattle.terms.specs.Meaning.{Valuation, truth}
use Rattle.store.proofs.MeaningRests.{same_meaning, same_question}
use Rattle.tables.proofs.DecodedTruth.{decode_truth}
use Rattle.tables.proofs.ListedTruth.{same_simplified}
use Rattle.tables.proofs.TableTaken.{equation_taken, RowTaken, table_taken}
use Rattle.operations.proofs.NumberedQuestions.{all_numbered, all_from}

-- ---- what is made of meanings that rest on the list
module _ {s : List ℕ} where
  pub rests_alike : {means others : Valuation → Bool} → ((v : Valuation) → means v ≡ others v) → Rests s means → Rests s others
  rests_alike e r = record { same = λ v w a. sym (e v) ∙ r.same v w a ∙ e w }

  pub rests_constant : (b : Bool) → Rests s (λ _. b)
  rests_constant b = record { same = λ v w a. refl }

  pub rests_not : {means : Valuation → Bool} → Rests s means → Rests s (λ v. not (means v))
  rests_not r = record { same = λ v w a. ap not (r.same v w a) }

  pub rests_and : {means others : Valuation → Bool} → Rests s means → Rests s others → Rests s (λ v. means v && others v)
  rests_and r p = record { same = λ v w a. ap₂ ◌&&◌ (r.same v w a) (p.same v w a) }

  pub rests_if : {means others rest : Valuation → Bool} → Rests s means → Rests s others → Rests s rest → Rests s (λ v. cond (means v) (others v) (rest v))
  rests_if r p q = record { same = λ v w a i. cond (r.same v w a i) (p.same v w a i) (q.same v w a i) }

-- ---- choices of counts that answer every question of the list alike
module _ (s : List ℕ) (v w : Valuation) (alike : (j : ℕ) → 1 ≤ j → j ≤ question_count s → truth v (question s j) ≡ truth w (question s j)) where
  module _ (limits : TermLimits) where
    same_shape : (before : ℕ → Bool) (sh : Shape) → shape_fault limits s sh ≡ none → shape_truth v before sh ≡ shape_truth w before sh
    same_shape before (Leaf b) f = refl
    same_shape before (Equation e) f = same_simplified s v w alike e (equation_taken limits s e f).listed
    same_shape before (Choice a b c) f = refl

    same_row : (before : ℕ → Bool) (i : ℕ) (r : Row) → RowTaken limits s i r → row_truth v before r ≡ row_truth w before r
    same_row before i r t = decode_truth v before r ∙ same_shape before (decode r) t.shape_fine ∙ sym (decode_truth w before r)

    same_rows : (table : List ℕ) (k : ℕ) → ((j : ℕ) → j < k → RowTaken limits s j (row table j)) → row_truths v table k ≡ row_truths w table k
    unfolding row_truths
    same_rows table zero t = refl
    same_rows table (suc k) t =
        let rows : Valuation → List Bool → List Bool = λ x truths. truths ++ (row_truth x (λ i. get_or truths i false) (row table k) ∷ []) in
        ap (rows v) (same_rows table k (λ j h. t j (omega arith)))
        ∙ ap (λ b. row_truths w table k ++ (b ∷ [])) (same_row (λ i. get_or (row_truths w table k) i false) k (row table k) (t k (omega arith)))

-- ---- what the operations finish
by_number : (s : List ℕ) (v w : Valuation) → All (λ q. truth v q ≡ truth w q) (questions s) → (j : ℕ) → 1 ≤ j → j ≤ question_count s
    → truth v (question s j) ≡ truth w (question s j)
by_number s v w a j h l = all_numbered (λ q. truth v q ≡ truth w q) s (question_count s) 1 a j h (omega arith)

pub handle_rests : {limits : Limits} {s : List ℕ} → Sound limits s → (h : ℕ) → h < used s + leaves → Rests s (meaning s h)
handle_rests {s = s} snd h l = record { same = λ v w a. same_meaning snd v w (by_number s v w a) h l }

pub table_rests : (limits : Limits) (s table : List ℕ) → table_fault limits s table ≡ none → Rests s (rule_meaning table)
table_rests limits s table e = record {
  same = λ v w a. ap (λ truths. get_or truths (row_count table - 1) false)
      (same_rows s v w (by_number s v w a) (terms_within limits (field_count s)) table (row_count table) (table_taken limits s table e).row_fine);
}

-- ---- the fields of a store
-- "A choice of counts gives each of the n fields a natural number.": what a choice gives beyond them is never read
pub rests_fields : {limits : Limits} {s : List ℕ} → Sound limits s → {means : Valuation → Bool} → Rests s means
    → (v w : Valuation) → ((f : Field) → 1 ≤ f.0 → f.0 ≤ field_count s → v f ≡ w f) → means v ≡ means w
rests_fields {s = s} snd r v w e =
    r.same v w (all_from (λ q. truth v q ≡ truth w q) s (question_count s) 1 (λ j h l. same_question snd v w e j h (omega arith)))
