-- A walk from a handle of a sound store goes on with a handle that is smaller and asks a later question, so the facts always have room for
-- one more answer.
use Prim.Native.Nat.{ℕ, suc, ◌+◌, ◌-◌, ◌≤◌, ◌<◌}
use mathlib.Core.Path.{◌≡◌, refl, sym, subst}
use mathlib.Core.Bool.{true}
use mathlib.Core.List.{List}
use native.Mathlib.Omega.{arith}
use Rattle.facts.specs.declared.decision.Decision.TheVariants.{Open}
use Rattle.facts.specs.declared.record.Facts.{Facts}
use Rattle.facts.specs.declared.asking.Asked.TheVariants as asked
use Rattle.facts.specs.Needs.{Askable}
use Rattle.facts.specs.Record.{state, most_noes, Small, Holds, AskedOf}
use Rattle.facts.specs.State.{start, no_to, decide}
use Rattle.store.specs.declared.entries.Entry.{Entry}
use Rattle.store.specs.Layout.{field_count, question, entry, used, leaves}
use Rattle.store.specs.Needs.{HasQuestion, HasEntry}
use Rattle.store.specs.Sound.{sound}
use Rattle.store.specs.SoundParts.{MayStand, Sound}
use Rattle.terms.specs.declared.limits.Limits.{Limits}
use Rattle.terms.specs.declared.term.Equation.{Equation}
use Rattle.terms.specs.Limits.{most_fields, most_count}
use Rattle.terms.specs.Needs.{FitLimits}
use Rattle.verdicts.specs.Needs.{CanDescend}
use Rattle.facts.proofs.HeldFacts.{holds_none, holds_ready, holds_yes, holds_no, small_more}
use Rattle.store.proofs.SoundFacts.{sound_says, used_fits}
use Rattle.store.proofs.SoundList.{sound_question}

-- ---- from the handle
module _ (limits : Limits) (s : List ℕ) (fit : FitLimits limits) (snd : sound limits s ≡ true) (h : ℕ) (l : h < used s + leaves) where
  -- with facts of which none is a no
  pub descent_from : {most : ℕ} → limits.terms.steps.0 ≤ most → most ≤ most_count → {f : Facts} → Holds 0 most f → CanDescend most s h f
  descent_from list_steps few_steps holds = record {
    limits = limits;
    fit = fit;
    sound_in = snd;
    handle_in = l;
    most_no = 0;
    few = omega arith;
    list_steps = list_steps;
    few_steps = few_steps;
    holds = holds;
    asks_later = λ k. ((sound_says limits s snd).entry_kept (h - leaves) (omega arith)).asks_some;
  }

  -- with no facts
  pub descent_starts : (most : ℕ) → limits.terms.steps.0 ≤ most → most ≤ most_count → (f : Facts) → state f ≡ start → CanDescend most s h f
  descent_starts most list_steps few_steps f ef = descent_from list_steps few_steps (holds_none most ef)

-- ---- at an entry
module _ {most : ℕ} {s : List ℕ} {handle : ℕ} {f : Facts} (w : CanDescend most s handle f) (h : leaves ≤ handle) where
  abbrev i : ℕ
  i = handle - leaves

  snd : Sound w.limits s
  snd = sound_says w.limits s w.sound_in

  i_in : i < used s
  i_in = omega (arith, w.handle_in)

  pub has_entry : HasEntry s i
  has_entry = omega (arith, used_fits snd, i_in)

  module _ {e : Entry} (ee : e ≡ entry s i) where
    kept : MayStand s i e
    kept = subst (MayStand s i) (sym ee) (snd.entry_kept i i_in)

    later : w.most_no < e.question
    later = subst (λ (x : Entry). w.most_no < x.question) (sym ee) (w.asks_later h)

    pub is_listed : {k : ℕ} → k ≡ e.question → HasQuestion s k
    is_listed ek = record { from_one = omega (arith, kept.asks_some); to_last = omega (arith, kept.asks_listed); list_in = snd.list_in }

    module _ {k : ℕ} (ek : k ≡ e.question) {q : Equation} (eq : q ≡ question s k) where
      small_asked : Small most q
      small_asked =
          let keeps = sound_question snd k (is_listed ek).from_one (is_listed ek).to_last in
          let fields = omega_fields in
          subst (Small most) (sym eq) (record {
            left_in = omega (arith, keeps.left.field_in, fields);
            right_in = omega (arith, keeps.right.field_in, fields);
            left_steps = omega (arith, keeps.left.steps_in, w.list_steps);
            right_steps = omega (arith, keeps.right.steps_in, w.list_steps);
          })
        where
          omega_fields : field_count s ≤ most_fields
          omega_fields = omega (arith, snd.fields_in, w.fit.fields_fit)

      few_noes : suc w.most_no ≤ most_noes
      few_noes = omega (arith, later, kept.asks_listed, snd.questions_in, w.fit.questions_fit)

      pub can_ask : Askable f q
      can_ask = holds_ready w.holds (omega (arith, few_noes)) w.few_steps q (small_more w.few_steps small_asked)

      pub small_no : Small most_count q
      small_no = small_more w.few_steps small_asked

      pub room_for_no : f.noes.count < most_noes
      room_for_no = omega (arith, w.holds.few, few_noes)

      module _ {g : Facts} (a : AskedOf f q (asked.Open g)) where
        is_open : decide (state f) q ≡ Open
        is_open = sym a.decision_is

        -- on with the facts of a yes
        pub can_go_yes : {y : ℕ} → y ≡ e.yes → CanDescend most s y g
        can_go_yes ey = record {
          limits = w.limits;
          fit = w.fit;
          sound_in = w.sound_in;
          handle_in = omega (arith, kept.yes_below, i_in);
          most_no = w.most_no;
          few = w.few;
          list_steps = w.list_steps;
          few_steps = w.few_steps;
          holds = holds_yes w.holds q small_asked is_open (a.yes_is g refl);
          asks_later = λ l. rw ey (omega (arith, later, kept.yes_later (omega arith)));
        }

        -- and of a no
        pub can_go_no : {n : ℕ} → n ≡ e.no → {other : Facts} → state other ≡ no_to (state f) q → CanDescend most s n other
        can_go_no en eg = record {
          limits = w.limits;
          fit = w.fit;
          sound_in = w.sound_in;
          handle_in = omega (arith, kept.no_below, i_in);
          most_no = suc w.most_no;
          few = omega (arith, later, kept.asks_listed);
          list_steps = w.list_steps;
          few_steps = w.few_steps;
          holds = holds_no w.holds q small_asked is_open eg;
          asks_later = λ l. rw en (omega (arith, later, kept.no_later (omega arith)));
        }

    -- on with the same facts
    pub can_skip_yes : {y : ℕ} → y ≡ e.yes → CanDescend most s y f
    can_skip_yes ey = record {
      limits = w.limits;
      fit = w.fit;
      sound_in = w.sound_in;
      handle_in = omega (arith, kept.yes_below, i_in);
      most_no = w.most_no;
      few = w.few;
      list_steps = w.list_steps;
      few_steps = w.few_steps;
      holds = w.holds;
      asks_later = λ l. rw ey (omega (arith, later, kept.yes_later (omega arith)));
    }

    pub can_skip_no : {n : ℕ} → n ≡ e.no → CanDescend most s n f
    can_skip_no en = record {
      limits = w.limits;
      fit = w.fit;
      sound_in = w.sound_in;
      handle_in = omega (arith, kept.no_below, i_in);
      most_no = w.most_no;
      few = w.few;
      list_steps = w.list_steps;
      few_steps = w.few_steps;
      holds = w.holds;
      asks_later = λ l. rw en (omega (arith, later, kept.no_later (omega arith)));
    }

    pub yes_falls : {t : ℕ} → handle ≡ t → {y : ℕ} → y ≡ e.yes → y < t
    yes_falls m ey = omega (arith, kept.yes_below)

    pub no_falls : {t : ℕ} → handle ≡ t → {n : ℕ} → n ≡ e.no → n < t
    no_falls m en = omega (arith, kept.no_below)
