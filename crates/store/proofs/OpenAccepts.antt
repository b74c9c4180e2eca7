-- What an accepted opening says: no test of the definition refused.
use Prim.Native.Nat.{ℕ, ◌+◌, ◌*◌, ◌/◌, ◌%◌, ◌≤◌, ◌<◌, ◌^◌}
use mathlib.Core.Path.{◌≡◌, refl, ap, ◌∙◌, sym}
use mathlib.Core.Logic.{◌≢◌}
use mathlib.Core.Bool.{true, false, cond}
use mathlib.Core.List.{List}
use native.Mathlib.Omega.{arith}
use borrow.Author.Tests.{le-ltb, ne_eqb}
use lib.Dec.{eqb, ltb}
use lib.ListN.{length}
use Rattle.terms.specs.declared.order.ListOrder.{ListOrder}
use Rattle.terms.specs.Order.{order_of, order_number, order_named}
use Rattle.terms.specs.declared.limits.Limits.{Limits}
use Rattle.store.specs.Opened.{Opened, is_accepted, and_then}
use Rattle.std.specs.Prelude.{Ok, Err}
use Rattle.store.specs.declared.answer.OpenFault.TheVariants.{TooManyFields, UnknownOrder, OddList, TooManyQuestions, TooShort}
use Rattle.store.specs.Layout.{heading_length}
use Rattle.terms.specs.Limits.{terms_within}
use Rattle.store.specs.Open.{list_fault, opening_in, opening, opened_words, opened, open_store}
use Rattle.store.specs.Outcome.{outcome}
use Rattle.terms.proofs.Cases.{by_eq, by_lt}
use Rattle.terms.proofs.OrderNumbers.{number_names, known_says}

pub record Accepts (limits : Limits) (n order : ℕ) (list : List ℕ) (words : ℕ) : Type 0 where
  pub fields : n ≤ limits.terms.field.0
  pub known : ListOrder
  pub order_is : order ≡ order_number known
  pub even : 2 * (length list / 2) ≡ length list
  pub few : length list / 2 ≤ limits.questions
  pub faultless : list_fault (order_of known) (terms_within limits n) list (length list / 2) 0 ≡ Ok tt
  pub fits : heading_length + length list ≤ words

no : {o : Opened} → is_accepted o ≡ false → o ≡ Ok tt → ⊥
no {o} r e =
    let clash : false ≡ true = sym r ∙ ap is_accepted e in
    let z : ◌≡◌ {A = ℕ} 0 1 = cc in
    omega arith

pub both : (f g : Opened) → and_then f g ≡ Ok tt → (f ≡ Ok tt) × (g ≡ Ok tt)
both (Ok tt) g e = (refl, e)
both (Err f) g e = absurd (no refl e)

-- a test that would refuse did not pass
module _ (x y : ℕ) (a b : Opened) (r : is_accepted a ≡ false) where
  past_lt : cond (ltb x y) a b ≡ Ok tt → (y ≤ x) × (b ≡ Ok tt)
  past_lt = by_lt (λ t. cond t a b ≡ Ok tt → (y ≤ x) × (b ≡ Ok tt)) x y (λ _ e. absurd (no r e)) (λ h e. (h, e))

  past_eq : cond (eqb x y) a b ≡ Ok tt → (x ≢ y) × (b ≡ Ok tt)
  past_eq = by_eq (λ t. cond t a b ≡ Ok tt → (x ≢ y) × (b ≡ Ok tt)) x y (λ _ e. absurd (no r e)) (λ h e. (h, e))

halves : (m : ℕ) → m % 2 ≢ 1 → 2 * (m / 2) ≡ m
halves m h = omega arith

pub accepts : (limits : Limits) (n order : ℕ) (list : List ℕ) (words : ℕ) → opening limits n order list words ≡ Ok tt → Accepts limits n order list words
unfolding opening opening_in
accepts limits n order list words e =
    let fields = past_lt _ _ (Err TooManyFields) _ refl e in
    let known = known_says order (λ (known : ListOrder). opening_in known limits n list words) (Err UnknownOrder) (Ok tt) fields.1 (no refl) in
    let even = past_eq _ _ (Err OddList) _ refl known.2 in
    let few = past_lt _ _ (Err TooManyQuestions) _ refl even.1 in
    let parts = both _ _ few.1 in
    let fits = past_lt _ _ (Err TooShort) _ refl parts.1 in
    record { fields = fields.0; known = known.0; order_is = known.1; even = halves (length list) even.0; few = few.0; faultless = parts.0; fits = fits.0 }

-- and where none of them refuses, an opening is accepted
pub accepts_opens : (limits : Limits) (n order : ℕ) (list : List ℕ) (words : ℕ) → Accepts limits n order list words → opening limits n order list words ≡ Ok tt
unfolding opening opening_in
accepts_opens limits n order list words a =
    let named : order_named order ≡ Ok a.known = ap order_named a.order_is ∙ number_names a.known in
    let even : length list % 2 ≢ 1 = λ h. omega (arith, a.even) in
    rw (
      le-ltb limits.terms.field.0 n a.fields,
      named,
      ne_eqb (length list % 2) 1 even,
      le-ltb limits.questions (length list / 2) a.few,
      a.faultless,
      le-ltb words (heading_length + length list) a.fits,
    )

-- the operation is accepted where its tests accept
pub accepted_opening : (limits : Limits) (n order : ℕ) (list s : List ℕ) → (open_store limits n order list s).answer ≡ Ok tt → opening limits n order list (length s) ≡ Ok tt
unfolding open_store
accepted_opening limits n order list s = go (opening limits n order list (length s))
  where
    go : (o : Opened) → (opened o n order list s).answer ≡ Ok tt → o ≡ Ok tt
    go (Ok tt) e = refl
    go (Err f) e = e

-- what it leaves then is the words of an opened store
pub opens : (limits : Limits) (n order : ℕ) (list s : List ℕ) → opening limits n order list (length s) ≡ Ok tt
    → open_store limits n order list s ≡ outcome (Ok tt) (opened_words n order list (length s))
unfolding open_store
opens limits n order list s e = rw e

-- an accepted opening has room for what is written, and its number of questions fits a word
module _ (limits : Limits) (n order : ℕ) (list : List ℕ) (words : ℕ) {o : Opened} (e : o ≡ opening limits n order list words) (a : o ≡ Ok tt) where
  pub fits_in : heading_length + length list ≤ words
  fits_in = (accepts limits n order list words (sym e ∙ a)).fits

  pub few_enough : limits.questions < 2 ^ 32 → length list / 2 < 2 ^ 32
  few_enough h = let few = (accepts limits n order list words (sym e ∙ a)).few in omega arith
