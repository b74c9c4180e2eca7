-- The value of a handle is that of the handle which follows it, so it stays the same on the way down, and the handle falls.
use Prim.Native.Nat.{ℕ, ◌+◌, ◌-◌, ◌≤◌, ◌<◌}
use mathlib.Core.Path.{◌≡◌, sym, ap, subst, ◌∙◌}
use mathlib.Core.List.{List}
use native.Mathlib.Omega.{arith}
use lib.Dec.{eqb}
use Rattle.facts.specs.declared.decision.Decision.{Decision}
use Rattle.facts.specs.declared.decision.Decision.TheVariants.{Always, Never, Open}
use Rattle.facts.specs.declared.record.Facts.{Facts}
use Rattle.facts.specs.Needs.{Askable}
use Rattle.facts.specs.Record.{state}
use Rattle.facts.specs.State.{State, decide}
use Rattle.store.specs.declared.entries.Entry.{Entry}
use Rattle.store.specs.Layout.{question, used, entry, leaves}
use Rattle.store.specs.Needs.{HasQuestion}
use Rattle.terms.specs.declared.term.Equation.{Equation}
use Rattle.walking.specs.Needs.{Walkable, CanFollow}
use Rattle.walking.specs.Value.{leaf_value, tree_value, handle_value}
use Rattle.facts.proofs.HeldFacts.{holds_ready}
use Rattle.store.proofs.ByHandles.{Falling, tree_entry}
use Rattle.store.proofs.SoundTree.{tree_leaf}

falling : {s : List ℕ} → Walkable s → Falling s (used s)
falling w = record { yes_below = w.yes_below; no_below = w.no_below }

-- ---- the value at an entry
module _ {s : List ℕ} (w : Walkable s) (i : ℕ) (h : i < used s) (st : State) where
  value_yes : decide st (question s (entry s i).question) ≡ Always → handle_value s (i + leaves) st ≡ handle_value s (entry s i).yes st
  unfolding tree_value
  value_yes e = rw (tree_entry (falling w) i h, e, tree_value)

  value_no : decide st (question s (entry s i).question) ≡ Never → handle_value s (i + leaves) st ≡ handle_value s (entry s i).no st
  unfolding tree_value
  value_no e = rw (tree_entry (falling w) i h, e, tree_value)

  value_open : decide st (question s (entry s i).question) ≡ Open → handle_value s (i + leaves) st ≡ Open
  unfolding tree_value
  value_open e = rw (tree_entry (falling w) i h, e, tree_value)

-- ---- the value at a leaf
value_leaf : (s : List ℕ) (st : State) {h : ℕ} → h < leaves → leaf_value (eqb h 1) ≡ handle_value s h st
unfolding tree_value
value_leaf s st {h} l = rw (tree_leaf s h l)

-- on the way down from a handle, at h
pub record Following (s : List ℕ) (handle : ℕ) (st : State) (h : ℕ) : Type 0 where
  pub named : h < used s + leaves
  pub same : handle_value s handle st ≡ handle_value s h st

module _ {s : List ℕ} {handle : ℕ} {f : Facts} (w : CanFollow s handle f) where
  module _ {h : ℕ} (inv : Following s handle (state f) h) where
    -- ---- at a leaf
    pub follow_leaf : h < leaves → {d : Decision} → d ≡ leaf_value (eqb h 1) → d ≡ handle_value s handle (state f)
    follow_leaf l e = e ∙ value_leaf s (state f) l ∙ sym inv.same

    -- ---- at an entry
    module _ (l : leaves ≤ h) {i : ℕ} (ei : i ≡ h - leaves) where
      entry_used : i < used s
      entry_used = omega (arith, inv.named)

      at_entry : handle_value s handle (state f) ≡ handle_value s (i + leaves) (state f)
      at_entry = inv.same ∙ ap (λ (x : ℕ). handle_value s x (state f)) (omega arith)

      module _ {e : Entry} (ee : e ≡ entry s i) where
        asked : {k : ℕ} → k ≡ e.question → k ≡ (entry s i).question
        asked ek = ek ∙ ap (λ (x : Entry). x.question) ee

        pub asks_question : {k : ℕ} → k ≡ e.question → HasQuestion s k
        asks_question {k} ek =
            let at : k ≡ (entry s i).question = asked ek in
            record {
              from_one = omega (arith, w.walkable.asks_some i entry_used);
              to_last = omega (arith, w.walkable.asks_listed i entry_used);
              list_in = omega (arith, w.walkable.used_in);
            }

        module _ {k : ℕ} (ek : k ≡ e.question) {q : Equation} (eq : q ≡ question s k) where
          pub can_decide : Askable f q
          can_decide = subst (Askable f) (sym eq) (holds_ready w.holds (omega arith) (omega arith) (question s k)
              (w.walkable.list_small k (asks_question ek).from_one (asks_question ek).to_last))

          module _ {d : Decision} (ed : d ≡ decide (state f) q) where
            decides : decide (state f) (question s (entry s i).question) ≡ d
            decides = sym (ed ∙ ap (decide (state f)) (eq ∙ ap (question s) (asked ek)))

            pub follow_open : d ≡ Open → Open ≡ handle_value s handle (state f)
            follow_open z = sym (at_entry ∙ value_open w.walkable i entry_used (state f) (decides ∙ z))

            pub follow_yes : {y : ℕ} → d ≡ Always → y ≡ e.yes → Following s handle (state f) y
            follow_yes {y} z ey =
                let at : y ≡ (entry s i).yes = ey ∙ ap (λ (x : Entry). x.yes) ee in
                record {
                  named = omega (arith, entry_used, w.walkable.yes_below i entry_used);
                  same = at_entry ∙ value_yes w.walkable i entry_used (state f) (decides ∙ z) ∙ ap (λ (x : ℕ). handle_value s x (state f)) (sym at);
                }

            pub follow_no : {n : ℕ} → d ≡ Never → n ≡ e.no → Following s handle (state f) n
            follow_no {n} z en =
                let at : n ≡ (entry s i).no = en ∙ ap (λ (x : Entry). x.no) ee in
                record {
                  named = omega (arith, entry_used, w.walkable.no_below i entry_used);
                  same = at_entry ∙ value_no w.walkable i entry_used (state f) (decides ∙ z) ∙ ap (λ (x : ℕ). handle_value s x (state f)) (sym at);
                }
