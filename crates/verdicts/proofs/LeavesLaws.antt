-- What is reached from a handle on each way through the code: its tree is a leaf, or the node of its entry.
use Prim.Native.Nat.{ℕ, ◌+◌, ◌-◌, ◌≤◌, ◌<◌}
use mathlib.Core.Path.{◌≡◌, refl, sym, ap, ap₂, ◌∙◌}
use mathlib.Core.Bool.{true, not, ◌||◌}
use mathlib.Core.List.{List}
use native.Mathlib.Omega.{arith}
use native.Mathlib.Decide.{ℕ_discrete}
use lib.Dec.{eqb}
use Rattle.facts.specs.declared.record.Facts.{Facts}
use Rattle.facts.specs.declared.asking.Asked.{Asked}
use Rattle.facts.specs.declared.asking.Asked.TheVariants as asked
use Rattle.facts.specs.Record.{state, AskedOf, asked_decision}
use Rattle.facts.specs.State.{no_to, yes_to, decide}
use Rattle.store.specs.declared.entries.Entry.{Entry}
use Rattle.store.specs.Layout.{question, entry, leaves}
use Rattle.store.specs.Tree.{node, tree}
use Rattle.terms.specs.declared.term.Equation.{Equation}
use Rattle.terms.specs.Limits.{most_count}
use Rattle.verdicts.specs.declared.leaves.Leaves.{Leaves}
use Rattle.verdicts.specs.Leaves.{either, reached}
use Rattle.verdicts.specs.Needs.{CanDescend}
use Rattle.store.proofs.SoundFacts.{sound_says}
use Rattle.store.proofs.SoundTree.{tree_leaf, tree_node}

reach_leaf : (handle : ℕ) → handle < leaves → eqb handle 0 ≡ not (eqb handle 1)
reach_leaf handle h = elim (ℕ_discrete handle 0) [
  | yes e ↦ rw e refl
  | no n ↦ let one : handle ≡ 1 = omega arith in rw one refl
]

-- where both leaves are reached nothing is added
either_full : (l m : Leaves) → l.never ≡ true → l.always ≡ true → l ≡ either l m
either_full l m n t = λ j. record { never = (n ∙ sym (ap (λ b. b || m.never) n)) j; always = (t ∙ sym (ap (λ b. b || m.always) t)) j }

pub leaf_reached : {s : List ℕ} (handle : ℕ) {f : Facts} → CanDescend most_count s handle f → handle < leaves
    → record { never = eqb handle 0; always = eqb handle 1 } ≡ reached (question s) (tree s handle) (state f)
unfolding reached
leaf_reached {s} handle w h = rw (tree_leaf s handle h) (ap (λ b. record { never = b; always = eqb handle 1 }) (reach_leaf handle h))

module _ {s : List ℕ} {handle : ℕ} {f : Facts} (w : CanDescend most_count s handle f) (h : leaves ≤ handle) where
  abbrev i : ℕ
  i = handle - leaves

  module _ {e : Entry} (ee : e ≡ entry s i) {k : ℕ} (ek : k ≡ e.question) {q : Equation} (eq : q ≡ question s k) where
    here : tree s handle ≡ node e.question (tree s e.yes) (tree s e.no)
    here =
        let d : i + leaves ≡ handle = omega arith in
        ap (tree s) (sym d) ∙ tree_node (sound_says w.limits s w.sound_in) i (omega (arith, w.handle_in))
        ∙ ap (λ (x : Entry). node x.question (tree s x.yes) (tree s x.no)) (sym ee)

    decided : {r : Asked} → AskedOf f q r → decide (state f) (question s e.question) ≡ asked_decision r
    decided a = sym (a.decision_is ∙ ap (decide (state f)) (eq ∙ ap (question s) ek))

    pub always_reached : AskedOf f q asked.Always → {y : ℕ} → y ≡ e.yes → {l : Leaves} → l ≡ reached (question s) (tree s y) (state f)
        → l ≡ reached (question s) (tree s handle) (state f)
    unfolding reached
    always_reached a ey el = rw (here, reached, decided a) (el ∙ ap (λ y. reached (question s) (tree s y) (state f)) ey)

    pub never_reached : AskedOf f q asked.Never → {n : ℕ} → n ≡ e.no → {l : Leaves} → l ≡ reached (question s) (tree s n) (state f)
        → l ≡ reached (question s) (tree s handle) (state f)
    unfolding reached
    never_reached a en el = rw (here, reached, decided a) (el ∙ ap (λ n. reached (question s) (tree s n) (state f)) en)

    module _ {g : Facts} (a : AskedOf f q (asked.Open g)) {y : ℕ} (ey : y ≡ e.yes) {l : Leaves} (el : l ≡ reached (question s) (tree s y) (state g)) where
      yes_part : l ≡ reached (question s) (tree s e.yes) (yes_to (state f) (question s e.question))
      yes_part = el ∙ ap₂ (λ y st. reached (question s) (tree s y) st) ey (a.yes_is g refl ∙ ap (yes_to (state f)) (eq ∙ ap (question s) ek))

      open_reached : {m : Leaves} → m ≡ reached (question s) (tree s e.no) (no_to (state f) (question s e.question))
          → either l m ≡ reached (question s) (tree s handle) (state f)
      unfolding reached
      open_reached em = rw (here, reached, decided a) (ap₂ either yes_part em)

      pub both_reached : l.never ≡ true → l.always ≡ true → l ≡ reached (question s) (tree s handle) (state f)
      both_reached n t = either_full l _ n t ∙ open_reached refl

      pub either_reached : {n : ℕ} → n ≡ e.no → (other : Facts) → state other ≡ no_to (state f) q → {m : Leaves}
          → m ≡ reached (question s) (tree s n) (state other) → {o : Leaves} → o ≡ either l m → o ≡ reached (question s) (tree s handle) (state f)
      either_reached en other eg em eo =
          eo ∙ open_reached (em ∙ ap₂ (λ n st. reached (question s) (tree s n) st) en (eg ∙ ap (no_to (state f)) (eq ∙ ap (question s) ek)))
