-- What the best sheet is at an entry: its question is asked as the verdict asks it, and its parts are sought in turn, in whichever order.
use Prim.Native.Nat.{ℕ, ◌+◌, ◌-◌, ◌≤◌, ◌<◌}
use mathlib.Core.Path.{◌≡◌, refl, sym, ap, ap₂, subst, ◌∙◌}
use mathlib.Core.Logic.{◌≢◌}
use mathlib.Core.Bool.{true}
use mathlib.Core.List.{List}
use native.Mathlib.Omega.{arith}
use Rattle.std.specs.Prelude.{Option}
use Rattle.examples.specs.Best.{Best, best}
use Rattle.examples.specs.Needs.{best_of, CanSeek}
use Rattle.facts.specs.declared.record.Facts.{Facts}
use Rattle.facts.specs.declared.asking.Asked.{Asked}
use Rattle.facts.specs.declared.asking.Asked.TheVariants as asked
use Rattle.facts.specs.declared.least.Sheet.{Sheet}
use Rattle.facts.specs.Needs.{Askable}
use Rattle.facts.specs.Record.{state, most_noes, Small, AskedOf, asked_decision}
use Rattle.facts.specs.State.{free, no_to, yes_to, decide}
use Rattle.store.specs.declared.entries.Entry.{Entry}
use Rattle.store.specs.Layout.{question, entry, leaves}
use Rattle.store.specs.Needs.{HasQuestion, HasEntry}
use Rattle.store.specs.Tree.{node, tree}
use Rattle.terms.specs.declared.term.Equation.{Equation}
use Rattle.terms.specs.Limits.{most_count}
use Rattle.examples.proofs.BestLaws.{sized}
use Rattle.examples.proofs.BestOnly.{best_turned}
use Rattle.store.proofs.SoundFacts.{sound_says}
use Rattle.store.proofs.SoundTree.{tree_node}
use Rattle.verdicts.specs.Needs.{CanDescend}
use Rattle.verdicts.proofs.DescentLaws as descent

-- ---- up to the question
module _ {s : List ℕ} {handle : ℕ} {f : Facts} {n : ℕ} (k : CanSeek s handle f n) (not_never : handle ≢ 0) (not_always : handle ≢ 1) where
  not_leaf : leaves ≤ handle
  not_leaf = omega arith

  pub seek_entry : HasEntry s (handle - leaves)
  seek_entry = descent.has_entry k.descent not_leaf

  module _ {e : Entry} (ee : e ≡ entry s (handle - leaves)) {j : ℕ} (ej : j ≡ e.question) where
    pub seek_listed : HasQuestion s j
    seek_listed = descent.is_listed k.descent not_leaf ee ej

    pub seek_ask : {q : Equation} → q ≡ question s j → Askable f q
    seek_ask eq = descent.can_ask k.descent not_leaf ee ej eq

-- ---- once it is asked
-- the question q of a handle's entry, whose parts are y and m
pub record Sought (s : List ℕ) (handle : ℕ) (f : Facts) (n y m : ℕ) (q : Equation) : Type 0 where
  pub can : CanSeek s handle f n
  pub not_never : handle ≢ 0
  pub not_always : handle ≢ 1
  pub here : Entry
  pub here_is : here ≡ entry s (handle - leaves)
  pub yes_is : y ≡ here.yes
  pub no_is : m ≡ here.no
  pub number : ℕ
  pub number_is : number ≡ here.question
  pub question_is : q ≡ question s number

module _ {s : List ℕ} {handle : ℕ} {f : Facts} {n y m : ℕ} {q : Equation} (x : Sought s handle f n y m q) where
  inner : leaves ≤ handle
  inner = not_leaf x.can x.not_never x.not_always

  pub small_asked : Small most_count q
  small_asked = descent.small_no x.can.descent inner x.here_is x.number_is x.question_is

  pub room_for_no : f.noes.count < most_noes
  room_for_no = descent.room_for_no x.can.descent inner x.here_is x.number_is x.question_is

  pub yes_falls : {t : ℕ} → handle ≡ t → y < t
  yes_falls e = descent.yes_falls x.can.descent inner x.here_is e x.yes_is

  pub no_falls : {t : ℕ} → handle ≡ t → m < t
  no_falls e = descent.no_falls x.can.descent inner x.here_is e x.no_is

  -- on from another handle with other facts, whose steps are as few
  keeps : {h : ℕ} {g : Facts} → CanDescend x.can.most s h g → CanSeek s h g n
  keeps down = record { most = x.can.most; few_steps = x.can.few_steps; descent = down; few_fields = x.can.few_fields }

  pub skip_yes : CanSeek s y f n
  skip_yes = keeps (descent.can_skip_yes x.can.descent inner x.here_is x.yes_is)

  pub skip_no : CanSeek s m f n
  skip_no = keeps (descent.can_skip_no x.can.descent inner x.here_is x.no_is)

  module _ {g : Facts} (a : AskedOf f q (asked.Open g)) where
    pub go_yes : CanSeek s y g n
    go_yes = keeps (descent.can_go_yes x.can.descent inner x.here_is x.number_is x.question_is a x.yes_is)

    pub go_no : {other : Facts} → state other ≡ no_to (state f) q → CanSeek s m other n
    go_no eg = keeps (descent.can_go_no x.can.descent inner x.here_is x.number_is x.question_is a x.no_is eg)

  -- ---- the best sheet, by the decision
  here_asked : q ≡ question s x.here.question
  here_asked = x.question_is ∙ ap (question s) x.number_is

  diagram : tree s handle ≡ node x.here.question (tree s y) (tree s m)
  diagram =
      let d : handle - leaves + leaves ≡ handle = omega (arith, inner) in
      let w = x.can.descent in
      ap (tree s) (sym d) ∙ tree_node (sound_says w.limits s w.sound_in) (handle - leaves) (omega (arith, inner, w.handle_in))
      ∙ ap (λ (e : Entry). node e.question (tree s e.yes) (tree s e.no)) (sym x.here_is)
      ∙ ap₂ (λ (a b : ℕ). node x.here.question (tree s a) (tree s b)) (sym x.yes_is) (sym x.no_is)

  decided : {r : Asked} → AskedOf f q r → decide (state f) (question s x.here.question) ≡ asked_decision r
  decided a = sym (a.decision_is ∙ ap (decide (state f)) here_asked)

  pub best_always : AskedOf f q asked.Always → (b : Best) {o : Best} → o ≡ best (question s) n (tree s y) (state f) b → o ≡ best (question s) n (tree s handle) (state f) b
  unfolding best
  best_always a b eo = rw (diagram, best, decided a) eo

  pub best_never : AskedOf f q asked.Never → (b : Best) {o : Best} → o ≡ best (question s) n (tree s m) (state f) b → o ≡ best (question s) n (tree s handle) (state f) b
  unfolding best
  best_never a b eo = rw (diagram, best, decided a) eo

  module _ {g : Facts} (a : AskedOf f q (asked.Open g)) (other : Facts) (eg : state other ≡ no_to (state f) q) where
    no_state : state other ≡ no_to (state f) (question s x.here.question)
    no_state = eg ∙ ap (no_to (state f)) here_asked

    yes_state : state g ≡ yes_to (state f) (question s x.here.question)
    yes_state = a.yes_is g refl ∙ ap (yes_to (state f)) here_asked

    pub best_open : (b : Best) {first : Best} → first ≡ best (question s) n (tree s y) (state g) b → {o : Best}
        → o ≡ best (question s) n (tree s m) (state other) first → o ≡ best (question s) n (tree s handle) (state f) b
    unfolding best
    best_open b {first} ef eo =
        rw (diagram, best, decided a) (eo ∙ ap₂ (λ st p. best (question s) n (tree s m) st p) no_state (ef ∙ ap (λ st. best (question s) n (tree s y) st b) yes_state))

    pub best_open_turned : (b : Option Sheet) {first : Best} → first ≡ best (question s) n (tree s m) (state other) (best_of n b) → {o : Best}
        → o ≡ best (question s) n (tree s y) (state g) first → o ≡ best (question s) n (tree s handle) (state f) (best_of n b)
    best_open_turned b {first} ef eo =
        let h = x.can.descent.holds in
        let j = x.here.question in
        let turned = subst (λ st. best (question s) n (tree s y) (yes_to st (question s j)) (best (question s) n (tree s m) (no_to st (question s j)) (best_of n b))
        ≡ best (question s) n (node j (tree s y) (tree s m)) st (best_of n b)) (sym h.is)
        (best_turned (question s) n h.facts (subst (λ st. free st ≡ true) h.is h.fitted) j (tree s y) (tree s m) (best_of n b) (sized x.can b)
        (ap (λ st. decide st (question s j)) (sym h.is) ∙ decided a)) in
        rw diagram (eo ∙ ap₂ (λ st p. best (question s) n (tree s y) st p) yes_state (ef ∙ ap (λ st. best (question s) n (tree s m) st (best_of n b)) no_state) ∙ turned)
