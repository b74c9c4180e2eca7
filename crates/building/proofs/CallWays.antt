-- What build, negate, join and choose are on each way through the code: soundness, then the table or the handles, then the finished diagram is added. Not a
-- is if a then never else always, and a and b is if a then b else never: the leaves are handles of every store.
use Prim.Native.Nat.{ℕ, ◌+◌, ◌<◌}
use mathlib.Core.Path.{◌≡◌, refl, sym, ap, ◌∙◌}
use mathlib.Core.Bool.{Bool, true, false, cond, not, ◌&&◌, and-true}
use mathlib.Core.List.{List}
use mathlib.Core.Option.{Option, none, some}
use native.Mathlib.Omega.{arith}
use borrow.Author.Tests.{lt-ltb}
use lib.Dec.{eqb}
use Rattle.std.proofs.Common.{Ok, Err}
use Rattle.building.specs.Needs.{are_handles}
use Rattle.inserting.specs.SubjectMeaning.{choice}
use Rattle.operations.specs.declared.answer.BuildFault.{BuildFault}
use Rattle.operations.specs.declared.answer.BuildFault.TheVariants.{NotSound, NoHandle, BadTable}
use Rattle.operations.specs.Built.{Built}
use Rattle.operations.specs.Operations.{refused, if_sound, if_handles, if_taken, added, add_meaning, build, negate, join, choose}
use Rattle.store.specs.Layout.{used, leaves, is_handle}
use Rattle.store.specs.Meaning.{meaning}
use Rattle.store.specs.Outcome.{Outcome}
use Rattle.store.specs.Sound.{sound}
use Rattle.tables.specs.declared.answer.TableFault.{TableFault}
use Rattle.tables.specs.Faults.{table_fault}
use Rattle.tables.specs.Rows.{rule_meaning}
use Rattle.tables.specs.TableFault.{Checked, checked}
use Rattle.terms.specs.declared.limits.Limits.{Limits}
use Rattle.terms.specs.Meaning.{Valuation}
use Rattle.operations.proofs.FinishedInStore.{finished_alike}
use Rattle.store.proofs.ByHandles.{leaf_stays}

-- ---- not and and, as choices
module _ (limits : Limits) (s : List ℕ) where
  never_means : (v : Valuation) → meaning s 0 v ≡ false
  never_means v = ap (λ (x : ℕ). eqb x 1) (leaf_stays 0 s v 0 (omega arith))

  always_means : (v : Valuation) → meaning s 1 v ≡ true
  always_means v = ap (λ (x : ℕ). eqb x 1) (leaf_stays 1 s v 1 (omega arith))

  is_not : (x : Bool) → cond x false true ≡ not x
  is_not true = refl
  is_not false = refl

  is_and : (x y : Bool) → cond x y false ≡ (x && y)
  is_and true y = refl
  is_and false y = refl

  same_added : (means others : Valuation → Bool) → ((v : Valuation) → means v ≡ others v) → add_meaning limits s means ≡ add_meaning limits s others
  same_added means others e = ap (added limits s) (finished_alike s means others e)

  leaf_handle : (leaf : ℕ) → leaf < leaves → is_handle s leaf ≡ true
  leaf_handle leaf h = lt-ltb leaf (used s + leaves) (omega arith)

  -- the call, by its test and what it adds
  abbrev tested : Bool → Outcome Built → Outcome Built
  tested given next = if_sound limits s (if_handles s given next)

  pub is_negated : (a : ℕ) {o : Outcome Built} → o ≡ choose limits s a 0 1 → o ≡ negate limits s a
  unfolding choose negate
  is_negated a e =
      let adds = same_added (choice s a 0 1) (λ v. not (meaning s a v))
      (λ v. (λ i. cond (meaning s a v) (never_means v i) (always_means v i)) ∙ is_not (meaning s a v)) in
      let test : are_handles s a 0 1 ≡ is_handle s a = simp (leaf_handle 0 (omega arith), leaf_handle 1 (omega arith), and-true) in
      e ∙ (λ i. tested (test i) (adds i))

  pub is_joined : (a b : ℕ) {o : Outcome Built} → o ≡ choose limits s a b 0 → o ≡ join limits s a b
  unfolding choose join
  is_joined a b e =
      let adds = same_added (choice s a b 0) (λ v. meaning s a v && meaning s b v)
      (λ v. (λ i. cond (meaning s a v) (meaning s b v) (never_means v i)) ∙ is_and (meaning s a v) (meaning s b v)) in
      let test : are_handles s a b 0 ≡ (is_handle s a && is_handle s b) = simp (leaf_handle 0 (omega arith), and-true) in
      e ∙ (λ i. tested (test i) (adds i))

-- ---- the fault of a table, by what its test answers
none_found : (x : Option TableFault) → checked x ≡ Ok tt → x ≡ none
none_found none e = refl
none_found (some f) e = absurd (let z : ◌≡◌ {A = ℕ} 0 1 = cc in omega arith)

fault_found : (x : Option TableFault) {f : TableFault} → checked x ≡ Err f → x ≡ some f
fault_found none e = absurd (let z : ◌≡◌ {A = ℕ} 0 1 = cc in omega arith)
fault_found (some g) {f} e = let d : g ≡ f = cc in ap some d

-- ---- soundness first
module _ (limits : Limits) (s : List ℕ) {t : Bool} (et : t ≡ sound limits s) where
  module _ (e : t ≡ false) where
    pub build_unsound : (table : List ℕ) → refused s NotSound ≡ build limits s table
    unfolding build
    build_unsound table = rw (← et, e)

    pub choose_unsound : (a b c : ℕ) → refused s NotSound ≡ choose limits s a b c
    unfolding choose
    choose_unsound a b c = rw (← et, e)

  module _ (e : t ≡ true) where
    sound_is : sound limits s ≡ true
    sound_is = sym et ∙ e

    -- ---- a table
    module _ (table : List ℕ) {f : Checked} (ef : f ≡ checked (table_fault limits s table)) where
      build_is : (x : Option TableFault) → table_fault limits s table ≡ x → if_taken s x (add_meaning limits s (rule_meaning table)) ≡ build limits s table
      unfolding build
      build_is x ex = rw (← et, e, ex)

      pub build_refused : {g : TableFault} → f ≡ Err g → {b : BuildFault} → b ≡ BadTable g → refused s b ≡ build limits s table
      build_refused {g} d is = ap (refused s) is ∙ build_is (some g) (fault_found (table_fault limits s table) (sym ef ∙ d))

      module _ (d : f ≡ Ok tt) where
        taken : table_fault limits s table ≡ none
        taken = none_found (table_fault limits s table) (sym ef ∙ d)

        pub builds : {o : Outcome Built} → o ≡ add_meaning limits s (rule_meaning table) → o ≡ build limits s table
        builds eo = eo ∙ build_is none taken

    -- ---- handles
    module _ (a b c : ℕ) {x : Bool} (ex : x ≡ are_handles s a b c) where
      pub choose_none : x ≡ false → refused s NoHandle ≡ choose limits s a b c
      unfolding choose
      choose_none d = rw (← et, e, ← ex, d)

      module _ (d : x ≡ true) where
        pub chooses : {o : Outcome Built} → o ≡ add_meaning limits s (choice s a b c) → o ≡ choose limits s a b c
        unfolding choose
        chooses eo = rw (← et, e, ← ex, d) eo
