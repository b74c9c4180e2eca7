-- What an accepted opening with a raw list says: no test of the definition refused, and the words are those that open writes for the resulting list.
use Prim.Native.Nat.{ℕ, ◌+◌, ◌/◌, ◌%◌, ◌≤◌}
use mathlib.Core.Path.{◌≡◌, refl, sym, ap, ◌∙◌}
use mathlib.Core.Logic.{◌≢◌}
use mathlib.Core.Bool.{Bool, true, cond}
use mathlib.Core.List.{List}
use native.Mathlib.Omega.{arith}
use lib.Dec.{eqb, ltb}
use lib.ListN.{length}
use Rattle.store.specs.Layout.{heading_length}
use Rattle.store.specs.Open.{opened_words}
use Rattle.store.specs.Outcome.{Outcome}
use Rattle.terms.specs.declared.limits.Limits.{Limits}
use Rattle.terms.specs.declared.order.ListOrder.{ListOrder}
use Rattle.terms.specs.Limits.{terms_within}
use Rattle.terms.specs.Order.{order_number}
use Rattle.terms.proofs.Cases.{by_test, by_eq, by_lt}
use Rattle.terms.proofs.OrderNumbers.{known_says}
use Rattle.raw_lists.specs.declared.answer.RawFault.{RawFault}
use Rattle.raw_lists.specs.declared.answer.RawFault.TheVariants.{TooManyFields, UnknownOrder, OddList, TooManyEquations, OutOfLimits, TooManyQuestions, TooShort}
use Rattle.raw_lists.specs.RawOpened.{RawOpened}
use Rattle.std.specs.Prelude.{Ok}
use Rattle.raw_lists.specs.Equations.{equations}
use Rattle.raw_lists.specs.OnPaper.{Taken}
use Rattle.raw_lists.specs.OpenRaw.{all_allowed, resulting_list, raw_refused, open_resulting, open_collected, open_raw_in, open_raw}

pub record RawAccepts (limits : Limits) (n order : ℕ) (raw s words : List ℕ) : Type 0 where
  pub fields : n ≤ limits.terms.field.0
  pub known : ListOrder
  pub order_is : order ≡ order_number known
  pub taken : Taken limits n raw
  pub few : length (resulting_list known raw) / 2 ≤ limits.questions
  pub fits : heading_length + length (resulting_list known raw) ≤ length s
  pub words_are : words ≡ opened_words n order (resulting_list known raw) (length s)

no : (s : List ℕ) (f : RawFault) → (raw_refused s f).answer ≡ Ok tt → ⊥
no s f e = let z : ◌≡◌ {A = ℕ} 0 1 = cc in omega arith

-- a test that would refuse did not pass
module _ (s : List ℕ) (f : RawFault) (o : Outcome RawOpened) where
  past_lt : (x y : ℕ) → (cond (ltb x y) (raw_refused s f) o).answer ≡ Ok tt → (y ≤ x) × (cond (ltb x y) (raw_refused s f) o ≡ o) × (o.answer ≡ Ok tt)
  past_lt x y = by_lt (λ t. (cond t (raw_refused s f) o).answer ≡ Ok tt → (y ≤ x) × (cond t (raw_refused s f) o ≡ o) × (o.answer ≡ Ok tt)) x y
      (λ _ e. absurd (no s f e)) (λ h e. (h, refl, e))

  past_eq : (x y : ℕ) → (cond (eqb x y) (raw_refused s f) o).answer ≡ Ok tt → (x ≢ y) × (cond (eqb x y) (raw_refused s f) o ≡ o) × (o.answer ≡ Ok tt)
  past_eq x y = by_eq (λ t. (cond t (raw_refused s f) o).answer ≡ Ok tt → (x ≢ y) × (cond t (raw_refused s f) o ≡ o) × (o.answer ≡ Ok tt)) x y
      (λ _ e. absurd (no s f e)) (λ h e. (h, refl, e))

  passed : (b : Bool) → (cond b o (raw_refused s f)).answer ≡ Ok tt → (b ≡ true) × (cond b o (raw_refused s f) ≡ o) × (o.answer ≡ Ok tt)
  passed b = by_test (λ t. (cond t o (raw_refused s f)).answer ≡ Ok tt → (t ≡ true) × (cond t o (raw_refused s f) ≡ o) × (o.answer ≡ Ok tt)) b
      (λ _ e. (refl, refl, e)) (λ _ e. absurd (no s f e))

module _ (limits : Limits) (n order : ℕ) (raw s : List ℕ) where
  pub raw_accepts : (open_raw limits n order raw s).answer ≡ Ok tt → RawAccepts limits n order raw s (open_raw limits n order raw s).words
  unfolding open_raw open_raw_in open_collected open_resulting
  raw_accepts e =
      let fields = past_lt s TooManyFields _ limits.terms.field.0 n e in
      let known = known_says order (λ (known : ListOrder). open_raw_in known limits n raw s) (raw_refused s UnknownOrder) _ (sym fields.1) (λ r. no s UnknownOrder (ap (λ o. o.answer) r ∙ e)) in
      let in_order : (open_raw_in known.0 limits n raw s).answer ≡ (Ok tt) = ap (λ o. o.answer) known.2 ∙ e in
      let even = past_eq s OddList _ (length raw % 2) 1 in_order in
      let few_raw = past_lt s TooManyEquations _ _ (length raw / 2) even.2 in
      let allowed = passed s OutOfLimits _ (all_allowed (terms_within limits n) (equations raw)) few_raw.2 in
      let few = past_lt s TooManyQuestions _ limits.questions (length (resulting_list known.0 raw) / 2) allowed.2 in
      let fits = past_lt s TooShort _ (length s) (heading_length + length (resulting_list known.0 raw)) few.2 in
      let whole = sym known.2 ∙ even.1 ∙ few_raw.1 ∙ allowed.1 ∙ few.1 ∙ fits.1 in
      record {
        fields = fields.0;
        known = known.0;
        order_is = known.1;
        taken = record { even = even.0; few = few_raw.0; allowed = allowed.0 };
        few = few.0;
        fits = fits.0;
        words_are = ap (λ o. o.words) whole ∙ ap (λ (k : ℕ). opened_words n k (resulting_list known.0 raw) (length s)) (sym known.1);
      }
