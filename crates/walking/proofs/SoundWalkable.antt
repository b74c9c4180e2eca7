-- A sound store is fit for a walk, since what a walk relies on is part of what the rules of a sound store say; so a walk over all questions can
-- begin with no facts.
use Prim.Native.Nat.{ℕ, ◌≤◌}
use mathlib.Core.Path.{◌≡◌}
use mathlib.Core.Bool.{true}
use mathlib.Core.List.{List}
use native.Mathlib.Omega.{arith}
use Rattle.facts.specs.declared.record.Facts.{Facts}
use Rattle.facts.specs.Record.{state}
use Rattle.terms.specs.Limits.{most_count}
use Rattle.facts.specs.State.{start}
use Rattle.terms.specs.declared.limits.Limits.{Limits}
use Rattle.store.specs.Layout.{question_count}
use Rattle.store.specs.Sound.{sound}
use Rattle.terms.specs.Needs.{FitLimits}
use Rattle.walking.specs.declared.subject.Subject.{Subject}
use Rattle.walking.specs.Needs.{Walkable, Named, CanWalk}
use Rattle.facts.proofs.HeldFacts.{holds_none}
use Rattle.store.proofs.SoundFacts.{sound_says, used_fits, used_few}
use Rattle.store.proofs.SoundList.{sound_question}

pub sound_walkable : (limits : Limits) (s : List ℕ) → FitLimits limits → sound limits s ≡ true → Walkable s
sound_walkable limits s fit t =
    let snd = sound_says limits s t in
    let few_steps : limits.terms.steps.0 ≤ most_count = omega (arith, fit.counts_fit) in
    record {
      list_short = omega (arith, snd.questions_in, fit.questions_fit);
      list_small = λ k first last.
          let kept = sound_question snd k first last in
          record {
            left_in = omega (arith, kept.left.field_in, snd.fields_in, fit.fields_fit);
            right_in = omega (arith, kept.right.field_in, snd.fields_in, fit.fields_fit);
            left_steps = omega (arith, kept.left.steps_in, few_steps);
            right_steps = omega (arith, kept.right.steps_in, few_steps);
          };
      used_few = omega (arith, used_few snd, fit.entries_fit);
      used_in = used_fits snd;
      asks_some = λ i h. (snd.entry_kept i h).asks_some;
      asks_listed = λ i h. (snd.entry_kept i h).asks_listed;
      yes_below = λ i h. (snd.entry_kept i h).yes_below;
      no_below = λ i h. (snd.entry_kept i h).no_below;
    }

-- "start with no facts"
pub can_begin : {limits : Limits} (s : List ℕ) (subject : Subject) {f : Facts} → FitLimits limits → sound limits s ≡ true → Named s subject
    → state f ≡ start → CanWalk limits s subject f 1 (question_count s)
can_begin {limits} s subject fit t named e = record {
  fit = fit;
  walkable = sound_walkable limits s fit t;
  named = named;
  from_one = omega arith;
  to_last = omega arith;
  holds = holds_none most_count e;
}
