-- The openings as calls: open, and the opening that takes a list of equations as it comes (document 02, i). The handle laws start from either.
use Rattle.std.specs.Prelude.{ℕ, List}
use Rattle.raw_lists.specs.OpenRaw.{open_raw}
use Rattle.raw_lists.specs.RawOpened.{raw_number}
use Rattle.store.specs.Open.{open_store}
use Rattle.store.specs.Opened.{open_number}
use Rattle.store.specs.Outcome.{Outcome, outcome}
use Rattle.terms.specs.declared.limits.Limits.{Limits}

pub data Opening : Type 0 where
  -- n, the order and the list
  by_list : ℕ → ℕ → List ℕ → Opening
  -- n, the order and the raw list
  by_raw_list : ℕ → ℕ → List ℕ → Opening

-- an answer's number, beside the words
abbrev numbered : {A : Type 0} → (A → ℕ) → Outcome A → Outcome ℕ
numbered number o = outcome (number o.answer) o.words

-- An opening on the words of a store: the very definition that its function's promise names.
abbrev pub opened_by : Limits → Opening → List ℕ → Outcome ℕ
opened_by limits (by_list n order list) s = numbered open_number (open_store limits n order list s)
opened_by limits (by_raw_list n order raw) s = numbered raw_number (open_raw limits n order raw s)
