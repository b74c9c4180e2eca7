-- The flags of a field are exact: a handle's flag is set if some equation of its diagram names the field. The pass upwards sets the flag of each entry once,
-- and the entry's handles are lower than its own, so their flags stand by then. So after all entries a leaf's flag is not set, and an entry's is if its
-- equation names the field or the flag of one of its two handles is set; by the handles the same holds of the diagrams.
use Prim.Native.Nat.{ℕ, zero, suc, ◌+◌, ◌≤◌, ◌<◌}
use mathlib.Core.Path.{◌≡◌, refl, ◌∙◌}
use mathlib.Core.Logic.{◌↔◌, ◌⊎◌, inl, inr, ⊎_elim}
use mathlib.Core.Bool.{Bool, true, false, false≢true, ◌||◌}
use mathlib.Core.List.{List}
use native.Mathlib.Omega.{arith}
use native.Mathlib.Decide.{ℕ_discrete}
use lib.ListN.{length, get_or, length-set, length-replicate}
use lib.Seq.{get_or-set_same, get_or-set_other}
use Rattle.terms.specs.Words.{field}
use Rattle.terms.proofs.OneValue.{all_alike}
use Rattle.store.specs.Layout.{leaves}
use Rattle.normal_form.specs.declared.limits.TableLimits.{TableLimits}
use Rattle.normal_form.specs.Falling.{Falling}
use Rattle.normal_form.specs.Named.{named}
use Rattle.normal_form.specs.Reachable.{flag_count}
use Rattle.normal_form.specs.Rules.{names, Names, SomeAsks}
use Rattle.normal_form.specs.Table.{entry_count, entry, asks}
use Rattle.normal_form.specs.Tree.{tree}
use Rattle.normal_form.proofs.ByHandles.{by_handles, tree_leaf, tree_entry}

either_exact : {A B : Type 0} {a b : Bool} → (a ≡ true) ↔ A → (b ≡ true) ↔ B → ((a || b) ≡ true) ↔ (A ⊎ B)
either_exact {a = true} p q = (λ _. inl (p.0 refl), λ _. refl)
either_exact {a = false} p q = (λ e. inr (q.0 e), ⊎_elim (λ x. absurd (false≢true (p.1 x))) q.1)

pub flags_length : (limits : TableLimits) (f : ℕ) (t : List ℕ) (k : ℕ) → length (named limits f t k) ≡ flag_count limits
unfolding named
flags_length limits f t zero = length-replicate (flag_count limits) false
flags_length limits f t (suc k) = simp length-set (flags_length limits f t k)

module _ (limits : TableLimits) {t : List ℕ} (falls : Falling t (entry_count t)) (f : ℕ) (few : entry_count t ≤ limits.entries) where
  -- the flag of a handle after the first k entries
  abbrev flag : ℕ → ℕ → Bool
  flag k h = get_or (named limits f t k) h false

  -- the entries from the k-th on don't change the flags of the handles lower than theirs
  flag_stays : (k h m : ℕ) → h < k + leaves → k ≤ m → flag m h ≡ flag k h
  unfolding named
  flag_stays k h zero l b = let e : k ≡ 0 = omega arith in rw e
  flag_stays k h (suc m) l b = elim (ℕ_discrete k (suc m)) [
    | yes e ↦ rw e
    | no d ↦ get_or-set_other (named limits f t m) (m + leaves) h _ false (omega arith) ∙ flag_stays k h m l (omega arith)
  ]

  flag_leaf : (h : ℕ) → h < leaves → flag (entry_count t) h ≡ false
  unfolding named
  flag_leaf h l = flag_stays 0 h (entry_count t) (omega arith) (omega arith) ∙ all_alike false (flag_count limits) h

  flag_entry : (i : ℕ) → i < entry_count t
      → flag (entry_count t) (i + leaves) ≡ (names f (asks (entry t i)) || (flag (entry_count t) (entry t i).yes || flag (entry_count t) (entry t i).no))
  unfolding named
  flag_entry i h =
      let m = entry_count t in
      flag_stays (suc i) (i + leaves) m (omega arith) h
      ∙ get_or-set_same (named limits f t i) (i + leaves) _ false (omega (arith, flags_length limits f t i))
      ∙ rw (flag_stays i (entry t i).yes m (falls.yes_below i h) (omega arith), flag_stays i (entry t i).no m (falls.no_below i h) (omega arith))

  -- The flags after all entries are exact.
  pub named_exact : (h : ℕ) → h < entry_count t + leaves → (get_or (named limits f t (entry_count t)) h false ≡ true) ↔ SomeAsks (Names (field f)) (tree t h)
  named_exact = by_handles falls (λ h. (flag (entry_count t) h ≡ true) ↔ SomeAsks (Names (field f)) (tree t h))
      (λ h l. rw (tree_leaf t h l, flag_leaf h l) (false≢true, λ e. absurd e))
      (λ i h y n. rw (tree_entry falls i h, flag_entry i h) (either_exact (λ e. e, λ e. e) (either_exact y n)))
