-- Build, negate, join and choose: the finished diagram of a meaning is added to the store, or nothing is changed. Each line that refuses stands
-- once, and goes on where its condition is not met.
use Rattle.std.specs.Prelude.{ℕ, Bool, cond, not, ◌&&◌, List, Option, Some, None, Ok, Err}
use Rattle.std.proofs.Math.Option.{Option as MathOption, none, some}
use Rattle.diagram.specs.Insert.{insert}
use Rattle.diagram.specs.Questions.{finished_in}
use Rattle.operations.specs.declared.answer.BuildFault.{BuildFault}
use Rattle.operations.specs.declared.answer.BuildFault.TheVariants.{NotSound, NoHandle, BadTable, NoRoom}
use Rattle.operations.specs.Built.{Built}
use Rattle.store.specs.Layout.{is_handle}
use Rattle.store.specs.Meaning.{meaning}
use Rattle.store.specs.Outcome.{Outcome, outcome}
use Rattle.store.specs.Sound.{sound}
use Rattle.store.specs.Tree.{Tree}
use Rattle.tables.specs.declared.answer.TableFault.{TableFault}
use Rattle.tables.specs.Faults.{table_fault}
use Rattle.tables.specs.Rows.{rule_meaning}
use Rattle.terms.specs.declared.limits.Limits.{Limits}
use Rattle.terms.specs.Meaning.{Valuation}

-- "On refusal the result is 0 and all lent words are unchanged."
abbrev pub refused : List ℕ → BuildFault → Outcome Built
refused s f = outcome (Err f) s

-- "22, store not sound at any later call"
abbrev pub if_sound : Limits → List ℕ → Outcome Built → Outcome Built
if_sound limits s next = cond (sound limits s) next (refused s NotSound)

-- "41, handle at or above used + 2": by the test of all handles given
abbrev pub if_handles : List ℕ → Bool → Outcome Built → Outcome Built
if_handles s given next = cond given next (refused s NoHandle)

-- 31 to 36, by the table's fault
abbrev pub if_taken : List ℕ → MathOption TableFault → Outcome Built → Outcome Built
if_taken s none next = next
if_taken s (some f) next = refused s (BadTable f)

-- "51, used plus new entries exceeds room": then every word is as it came, here s
abbrev pub unless_full : List ℕ → Outcome (Option ℕ) → Outcome Built
unless_full s o = elim o.answer as (λ _. Outcome Built) [ Some h ↦ outcome (Ok h) o.words | None ↦ refused s NoRoom ]

unfoldable pub added : Limits → List ℕ → Tree → Outcome Built
added limits s t = unless_full s (insert limits s t)

-- "the finished diagram of that meaning"
abbrev pub add_meaning : Limits → List ℕ → (Valuation → Bool) → Outcome Built
add_meaning limits s means = added limits s (finished_in s means)

-- "The last row is the rule. Its finished diagram alone is added, no other row's."
unfoldable pub build : Limits → List ℕ → List ℕ → Outcome Built
build limits s table = if_sound limits s (if_taken s (table_fault limits s table) (add_meaning limits s (rule_meaning table)))

-- "Negate one handle"; "22, 41 from the first handle on"
unfoldable pub negate : Limits → List ℕ → ℕ → Outcome Built
negate limits s a = if_sound limits s (if_handles s (is_handle s a) (add_meaning limits s (λ v. not (meaning s a v))))

-- "join two (and)"
unfoldable pub join : Limits → List ℕ → ℕ → ℕ → Outcome Built
join limits s a b = if_sound limits s (if_handles s (is_handle s a && is_handle s b) (add_meaning limits s (λ v. meaning s a v && meaning s b v)))

-- "choose by three (if-then-else)"
unfoldable pub choose : Limits → List ℕ → ℕ → ℕ → ℕ → Outcome Built
choose limits s a b c =
    if_sound limits s (if_handles s (is_handle s a && is_handle s b && is_handle s c)
    (add_meaning limits s (λ v. cond (meaning s a v) (meaning s b v) (meaning s c v))))
