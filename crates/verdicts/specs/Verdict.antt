-- "Verdict of a handle: 0 never, 1 always, 2 sometimes, by meaning, in any sound store."
use Rattle.std.specs.Prelude.{ℕ, cond, List, Result, Ok, Err}
use Rattle.facts.specs.State.{start}
use Rattle.store.specs.declared.verdict.Verdict.{Verdict}
use Rattle.store.specs.declared.verdict.Verdict.TheVariants.{Never, Always, Sometimes}
use Rattle.store.specs.Layout.{question, is_handle}
use Rattle.store.specs.Sound.{sound}
use Rattle.store.specs.Tree.{tree}
use Rattle.store.specs.VerdictWord.{result_of_verdict}
use Rattle.terms.specs.declared.limits.Limits.{Limits}
use Rattle.terms.specs.Refusal.{answer_number}
use Rattle.verdicts.specs.declared.answer.VerdictFault.{VerdictFault}
use Rattle.verdicts.specs.declared.answer.VerdictFault.TheVariants.{NotSound, NoHandle}
use Rattle.verdicts.specs.declared.leaves.Leaves.{Leaves}
use Rattle.verdicts.specs.Leaves.{reached, by_leaves}

-- What verdict answers: whether no, every, or some but not every choice of counts satisfies the handle, or why it was not asked.
abbrev pub VerdictAnswer : Type 0
VerdictAnswer = Result Verdict VerdictFault

-- "0 never, 1 always, 2 sometimes, by meaning"
abbrev pub verdict_by : Leaves → Verdict
verdict_by = by_leaves Never Always Sometimes

-- "22, 41"
unfoldable pub verdict : Limits → List ℕ → ℕ → VerdictAnswer
verdict limits s handle =
    cond (sound limits s)
    (cond (is_handle s handle) (Ok (verdict_by (reached (question s) (tree s handle) start))) (Err NoHandle))
    (Err NotSound)

abbrev pub verdict_fault_number : VerdictFault → ℕ
verdict_fault_number NotSound = 22
verdict_fault_number NoHandle = 41

abbrev pub verdict_number : VerdictAnswer → ℕ
verdict_number = answer_number verdict_fault_number

-- "0 never, 1 always, 2 sometimes"
abbrev pub verdict_result : VerdictAnswer → ℕ
verdict_result = result_of_verdict
