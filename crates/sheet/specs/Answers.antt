-- "An answer is a number and a result. Number 0 is success." Which number and result each operation's answer has.
use Rattle.std.specs.Prelude.{ℕ}
use Rattle.examples.specs.Example.{Example, example_number}
use Rattle.normal_form.specs.CheckAnswer.{CheckAnswer, checked_number, checked_result}
use Rattle.operations.specs.Built.{Built, built_number, built_result}
use Rattle.raw_lists.specs.RawOpened.{RawOpened, raw_number}
use Rattle.sheet.specs.declared.answers.Answer.{Answer}
use Rattle.reading.specs.Read.{Read, read_number, read_result}
use Rattle.store.specs.Opened.{Opened, open_number}
use Rattle.verdicts.specs.Verdict.{VerdictAnswer, verdict_number, verdict_result}
use Rattle.writing.specs.WriteBack.{Written, written_number, written_result}

abbrev pub answer_with : ℕ → ℕ → Answer
answer_with number result = record { number = number; result = result }

-- "Open and example give result 0 on success"
abbrev pub opened_answer : Opened → Answer
opened_answer o = answer_with (open_number o) 0

abbrev pub raw_opened_answer : RawOpened → Answer
raw_opened_answer o = answer_with (raw_number o) 0

abbrev pub example_answer : Example → Answer
example_answer e = answer_with (example_number e) 0

-- "The result of these and of build is the diagram's handle."
abbrev pub built_answer : Built → Answer
built_answer b = answer_with (built_number b) (built_result b)

-- "0 never, 1 always, 2 sometimes"
abbrev pub verdict_answer : VerdictAnswer → Answer
verdict_answer v = answer_with (verdict_number v) (verdict_result v)

-- "1 if every filling of the blanks ... satisfies the rule, 0 if none does, 2 otherwise"
abbrev pub read_answer : Read → Answer
read_answer r = answer_with (read_number r) (read_result r)

-- "The answer is the row count"
abbrev pub written_answer : Written → Answer
written_answer w = answer_with (written_number w) (written_result w)

-- "On acceptance the result is the root's verdict."
abbrev pub checked_answer : CheckAnswer → Answer
checked_answer c = answer_with (checked_number c) (checked_result c)
