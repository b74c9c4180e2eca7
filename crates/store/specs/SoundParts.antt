-- What it is for a store to be sound, in plain facts.
use Rattle.std.specs.Prelude.{ℕ, ◌+◌, ◌-◌, ◌*◌, ◌≤◌, ◌<◌, ◌≡◌, ◌≢◌, List, length, get_or, Ok}
use Rattle.terms.specs.declared.limits.Limits.{Limits}
use Rattle.terms.specs.Limits.{terms_within}
use Rattle.terms.specs.declared.order.ListOrder.{ListOrder}
use Rattle.terms.specs.Order.{order_of, order_number}
use Rattle.store.specs.declared.entries.Entry.{Entry}
use Rattle.store.specs.Layout.{field_count, question_count, used, store_order, list_words, entries_start, entry, leaves, room}
use Rattle.store.specs.Open.{list_fault}

-- an entry keeps the rules as the i-th of a store
pub record MayStand (s : List ℕ) (i : ℕ) (e : Entry) : Type 0 where
  pub asks_some : 1 ≤ e.question
  pub asks_listed : e.question ≤ question_count s
  pub yes_below : e.yes < i + leaves
  pub no_below : e.no < i + leaves
  pub differ : e.yes ≢ e.no
  pub yes_later : leaves ≤ e.yes → e.question < (entry s (e.yes - leaves)).question
  pub no_later : leaves ≤ e.no → e.question < (entry s (e.no - leaves)).question

abbrev pub EntryKept : List ℕ → ℕ → Type 0
EntryKept s i = MayStand s i (entry s i)

pub record Sound (limits : Limits) (s : List ℕ) : Type 0 where
  pub fields_in : field_count s ≤ limits.terms.field.0
  pub questions_in : question_count s ≤ limits.questions
  pub list_in : entries_start s ≤ length s
  pub order : ListOrder
  pub order_is : store_order s ≡ order_number order
  pub list_kept : list_fault (order_of order) (terms_within limits (field_count s)) (list_words s) (question_count s) 0 ≡ Ok tt
  pub used_in : used s ≤ room limits s
  pub entry_kept : (i : ℕ) → i < used s → EntryKept s i
  pub entries_differ : (j i : ℕ) → j < i → i < used s → entry s j ≢ entry s i
  pub unused_zero : (k : ℕ) → entries_start s + 3 * used s ≤ k → get_or s k 0 ≡ 0
