-- "Calls that leave the store as it is may come between." (document 01, the handle laws). Verdict, example, read and write back are lent a store that
-- they can't write. The openings are lent it to be written. Refused, they leave the books as they are; accepted, they begin them anew.
use Rattle.std.specs.Prelude.{ℕ, cond, List, [], ◌∷◌, eqb}
use Rattle.operations.specs.Handles.{Call, Books, first_ledger, after}
use Rattle.operations.specs.Openings.{Opening, opened_by}
use Rattle.store.specs.Outcome.{Outcome}
use Rattle.terms.specs.declared.limits.Limits.{Limits}

-- any call that is lent the store to be written
pub data Step : Type 0 where
  call : Call → Step
  reopen : Opening → Step

-- the books after an opening on their store, by its number
abbrev pub reopened : Books → Outcome ℕ → Books
reopened b o = record { words = o.words; ledger = cond (eqb o.answer 0) first_ledger b.ledger }

abbrev pub after_step : Limits → Books → Step → Books
after_step limits b (call c) = after limits b c
after_step limits b (reopen o) = reopened b (opened_by limits o b.words)

-- the whole list of them, in turn
unfoldable pub run_steps : Limits → Books → List Step → Books
run_steps limits b [] = b
run_steps limits b (x ∷ xs) = run_steps limits (after_step limits b x) xs
