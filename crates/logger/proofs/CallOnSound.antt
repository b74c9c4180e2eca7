-- A call on a sound store, in two lines: its own test refuses it, or the finished diagram of its rule is added.
use Prim.Native.Nat.{ℕ}
use mathlib.Core.Path.{◌≡◌, refl}
use mathlib.Core.Bool.{Bool, true, false, cond, ◌&&◌}
use mathlib.Core.List.{List, []}
use mathlib.Core.Option.{Option, none, some}
use Rattle.operations.specs.declared.answer.BuildFault.{BuildFault}
use Rattle.operations.specs.declared.answer.BuildFault.TheVariants.{NoHandle, BadTable}
use Rattle.operations.specs.Built.{Built}
use Rattle.operations.specs.Handles.{Call, build, negate, join, choose, answer_to, rule_of, rule_of_call}
use Rattle.operations.specs.Operations as operation
use Rattle.operations.specs.Operations.{refused, if_handles, if_taken, add_meaning}
use Rattle.store.specs.Layout.{is_handle}
use Rattle.store.specs.Outcome.{Outcome}
use Rattle.store.specs.SoundParts.{Sound}
use Rattle.tables.specs.declared.answer.TableFault.{TableFault}
use Rattle.tables.specs.Faults.{table_fault}
use Rattle.terms.specs.declared.limits.Limits.{Limits}
use Rattle.store.proofs.SoundFacts.{sound_from}

-- the fault of a table, and of handles that are not all the store's
abbrev pub of_table : Option TableFault → Option BuildFault
of_table none = none
of_table (some f) = some (BadTable f)

abbrev pub of_handles : Bool → Option BuildFault
of_handles given = cond given none (some NoHandle)

abbrev pub call_fault : Limits → List ℕ → Call → Option BuildFault
call_fault limits s (build table) = of_table (table_fault limits s table)
call_fault limits s (negate a) = of_handles (is_handle s a)
call_fault limits s (join a b) = of_handles (is_handle s a && is_handle s b)
call_fault limits s (choose a b c) = of_handles (is_handle s a && is_handle s b && is_handle s c)

abbrev pub unless_fault : List ℕ → Option BuildFault → Outcome Built → Outcome Built
unless_fault s none next = next
unless_fault s (some f) next = refused s f

by_table : (s : List ℕ) (fault : Option TableFault) (next : Outcome Built) → if_taken s fault next ≡ unless_fault s (of_table fault) next
by_table s none next = refl
by_table s (some f) next = refl

by_handles : (s : List ℕ) (given : Bool) (next : Outcome Built) → if_handles s given next ≡ unless_fault s (of_handles given) next
by_handles s true next = refl
by_handles s false next = refl

pub call_on_sound : {limits : Limits} {s : List ℕ} → Sound limits s → (c : Call)
    → answer_to limits s c ≡ unless_fault s (call_fault limits s c) (add_meaning limits s (rule_of_call [] s c))
unfolding operation.build operation.negate operation.join operation.choose rule_of
call_on_sound {limits} {s} snd (build table) = rw (sound_from limits s snd) (by_table s (table_fault limits s table) _)
call_on_sound {limits} {s} snd (negate a) = rw (sound_from limits s snd) (by_handles s (is_handle s a) _)
call_on_sound {limits} {s} snd (join a b) = rw (sound_from limits s snd) (by_handles s (is_handle s a && is_handle s b) _)
call_on_sound {limits} {s} snd (choose a b c) = rw (sound_from limits s snd) (by_handles s (is_handle s a && is_handle s b && is_handle s c) _)
