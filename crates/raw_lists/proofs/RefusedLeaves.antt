-- A refused opening with a raw list leaves every lent word as it came: each line of the definition that refuses does, and the one that writes is accepted.
use Prim.Native.Nat.{ℕ, ◌+◌, ◌/◌, ◌%◌}
use mathlib.Core.Path.{◌≡◌, refl}
use mathlib.Core.Bool.{Bool, true, false, cond}
use mathlib.Core.List.{List}
use native.Mathlib.Omega.{arith}
use lib.Dec.{eqb, ltb}
use lib.ListN.{length}
use Rattle.store.specs.Layout.{heading_length}
use Rattle.store.specs.Open.{opened_words}
use Rattle.store.specs.Outcome.{Outcome, outcome}
use Rattle.terms.specs.declared.limits.Limits.{Limits}
use Rattle.terms.specs.declared.order.ListOrder.{ListOrder}
use Rattle.terms.specs.Limits.{terms_within}
use Rattle.terms.specs.Order.{Named, order_number, order_named, if_known}
use Rattle.raw_lists.specs.declared.answer.RawFault.{RawFault}
use Rattle.raw_lists.specs.declared.answer.RawFault.TheVariants.{TooManyFields, UnknownOrder, OddList, TooManyEquations, OutOfLimits, TooManyQuestions, TooShort}
use Rattle.raw_lists.specs.RawOpened.{RawOpened}
use Rattle.std.specs.Prelude.{Ok, Err}
use Rattle.raw_lists.specs.Equations.{equations}
use Rattle.raw_lists.specs.Limits.{most_equations}
use Rattle.raw_lists.specs.OpenRaw.{all_allowed, resulting_list, raw_refused, open_resulting, open_collected, open_raw_in, open_raw}

-- where it is a refusal, the words are s
record Leaves (s : List ℕ) (o : Outcome RawOpened) : Type 0 where
  leaves : (f : RawFault) → o.answer ≡ Err f → o.words ≡ s

module _ (s : List ℕ) where
  refusal : (f : RawFault) → Leaves s (raw_refused s f)
  refusal f = record { leaves = λ _ _. refl }

  acceptance : (words : List ℕ) → Leaves s (outcome (Ok tt) words)
  acceptance words = record { leaves = λ f e. absurd (let z : ◌≡◌ {A = ℕ} 0 1 = cc in omega arith) }

  either : (b : Bool) {o p : Outcome RawOpened} → Leaves s o → Leaves s p → Leaves s (cond b o p)
  either true l k = l
  either false l k = k

  if_named : (k : Named) {next : ListOrder → Outcome RawOpened} {o : Outcome RawOpened} → ((known : ListOrder) → Leaves s (next known)) → Leaves s o
      → Leaves s (if_known k next o)
  if_named (Ok known) l k = l known
  if_named (Err none) l k = k

module _ (limits : Limits) (n : ℕ) (raw s : List ℕ) where
  resulting_leaves : (order : ℕ) (list : List ℕ) → Leaves s (open_resulting limits n order list s)
  unfolding open_resulting
  resulting_leaves order list =
      either s (ltb limits.questions (length list / 2)) (refusal s TooManyQuestions)
      (either s (ltb (length s) (heading_length + length list)) (refusal s TooShort) (acceptance s (opened_words n order list (length s))))

  raw_list_leaves : (order : ListOrder) → Leaves s (open_raw_in order limits n raw s)
  unfolding open_raw_in open_collected
  raw_list_leaves order =
      either s (eqb (length raw % 2) 1) (refusal s OddList)
      (either s (ltb most_equations (length raw / 2)) (refusal s TooManyEquations)
      (either s (all_allowed (terms_within limits n) (equations raw)) (resulting_leaves (order_number order) (resulting_list order raw)) (refusal s OutOfLimits)))

pub raw_refused_leaves : (limits : Limits) (n order : ℕ) (raw s : List ℕ) (f : RawFault) → (open_raw limits n order raw s).answer ≡ Err f → (open_raw limits n order raw s).words ≡ s
unfolding open_raw
raw_refused_leaves limits n order raw s =
    (either s (ltb limits.terms.field.0 n) (refusal s TooManyFields) (if_named s (order_named order) (raw_list_leaves limits n raw s) (refusal s UnknownOrder))).leaves
