-- The numbers of a check's answer (document 02, vii).
use Rattle.std.specs.Prelude.{ℕ, Result}
use Rattle.store.specs.declared.verdict.Verdict.{Verdict}
use Rattle.store.specs.VerdictWord.{result_of_verdict}
use Rattle.terms.specs.Refusal.{answer_number}
use Rattle.normal_form.specs.declared.answer.CheckFault.{CheckFault}
use Rattle.normal_form.specs.declared.answer.CheckFault.TheVariants.{BadShape, BadTerm, HandleNotLower, EqualEntries, NotReachable, RuleApplies}

-- what a check answers: the root's verdict, if the table is accepted, or why it is not
abbrev pub CheckAnswer : Type 0
CheckAnswer = Result Verdict CheckFault

abbrev pub check_fault_number : CheckFault → ℕ
check_fault_number BadShape = 81
check_fault_number BadTerm = 82
check_fault_number HandleNotLower = 83
check_fault_number EqualEntries = 84
check_fault_number NotReachable = 85
check_fault_number RuleApplies = 86

abbrev pub checked_number : CheckAnswer → ℕ
checked_number = answer_number check_fault_number

-- "On acceptance the result is the root's verdict": 0 never, 1 always, 2 sometimes
abbrev pub checked_result : CheckAnswer → ℕ
checked_result = result_of_verdict
