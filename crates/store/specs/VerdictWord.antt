-- "0 never, 1 always, 2 sometimes"
use Rattle.std.specs.Prelude.{ℕ, Result, Ok, Err}
use Rattle.store.specs.declared.verdict.Verdict.{Verdict}
use Rattle.store.specs.declared.verdict.Verdict.TheVariants.{Never, Always, Sometimes}

abbrev pub verdict_word : Verdict → ℕ
verdict_word Never = 0
verdict_word Always = 1
verdict_word Sometimes = 2

-- "On refusal the result is 0"
abbrev pub result_of_verdict : {F : Type 0} → Result Verdict F → ℕ
result_of_verdict (Ok verdict) = verdict_word verdict
result_of_verdict (Err f) = 0
