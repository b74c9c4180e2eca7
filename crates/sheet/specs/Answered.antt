-- "the number, result and every lent word afterwards": what a call leaves in the words lent to be written, with its answer in the documents'
-- numbers.
use Rattle.sheet.specs.declared.answers.Answer.{Answer}
use Rattle.store.specs.Outcome.{Outcome, outcome}

abbrev pub answered : {A : Type 0} → (A → Answer) → Outcome A → Outcome Answer
answered numbers o = outcome (numbers o.answer) o.words
