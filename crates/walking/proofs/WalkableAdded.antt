-- An entry written after the last leaves the words fit for a walk, if it asks a question of the list and names handles that stand already.
use Prim.Native.Nat.{ℕ, ◌+◌, ◌≤◌, ◌<◌}
use mathlib.Core.Path.{◌≡◌, sym, subst}
use mathlib.Core.List.{List}
use native.Mathlib.Omega.{arith}
use Rattle.facts.specs.Record.{Small}
use Rattle.store.specs.declared.entries.Entry.{Entry}
use Rattle.store.specs.Entries.{with_entry}
use Rattle.store.specs.Grown.{Agree}
use Rattle.store.specs.Layout.{question_count, used, entry, leaves}
use Rattle.store.specs.Needs.{HasEntry}
use Rattle.terms.specs.Limits.{most_entries, most_count}
use Rattle.walking.specs.Needs.{Walkable}
use Rattle.store.proofs.EntryAdded.{length_added, agree_added, used_added, by_entry}
use Rattle.store.proofs.StoreWords.{questions_agree, question_agrees}

-- what a walk relies on in an entry, the i-th of a store with so many questions
pub record Fine (questions i : ℕ) (e : Entry) : Type 0 where
  pub some : 1 ≤ e.question
  pub listed : e.question ≤ questions
  pub yes_lower : e.yes < i + leaves
  pub no_lower : e.no < i + leaves

module _ (s : List ℕ) (e : Entry) (w : Walkable s) (fits : HasEntry s (used s)) (few : used s < most_entries) (new : Fine (question_count s) (used s) e) where
  abbrev s' : List ℕ
  s' = with_entry s e

  agrees : Agree s s' (used s)
  agrees = agree_added s e

  same_count : question_count s' ≡ question_count s
  same_count = questions_agree agrees

  one_more : used s' ≡ used s + 1
  one_more = used_added s e fits

  fine : (i : ℕ) → i < used s' → Fine (question_count s) i (entry s' i)
  fine = by_entry s e fits (Fine (question_count s))
      (λ i l. record { some = w.asks_some i l; listed = w.asks_listed i l; yes_lower = w.yes_below i l; no_lower = w.no_below i l }) new

  pub walkable_added : Walkable s'
  walkable_added = record {
    list_short = omega (arith, same_count, w.list_short);
    list_small = λ j l h. subst (Small most_count) (sym (question_agrees agrees j)) (w.list_small j l (omega (arith, same_count)));
    used_few = omega (arith, one_more);
    used_in = omega (arith, one_more, same_count, length_added s e);
    asks_some = λ i h. (fine i h).some;
    asks_listed = λ i h. omega (arith, same_count, (fine i h).listed);
    yes_below = λ i h. (fine i h).yes_lower;
    no_below = λ i h. (fine i h).no_lower;
  }
