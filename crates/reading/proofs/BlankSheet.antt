-- A sheet of blanks only has no facts, so that reading walks as the verdict does and meets the same leaves.
use Prim.Native.Nat.{ℕ, zero, suc, ◌≤◌}
use mathlib.Core.Path.{◌≡◌, refl, ap}
use mathlib.Core.Bool.{cond}
use mathlib.Core.List.{List, []}
use native.Mathlib.Omega.{arith}
use borrow.Author.Tests.{eq-eqb}
use lib.ListN.{length, replicate, length-replicate}
use Rattle.std.proofs.lemmas.List.{get_or-replicate}
use Rattle.std.specs.Prelude.{Ok}
use Rattle.facts.specs.State.{start, state_of}
use Rattle.reading.specs.declared.answer.Reading.TheVariants as reading
use Rattle.reading.specs.Blanks.{blank, facts_up_to}
use Rattle.reading.specs.Read.{Read, reached_by, read_by, read_sheet, read_number, read_result}
use Rattle.store.specs.Layout.{field_count, question, is_handle}
use Rattle.store.specs.Sound.{sound}
use Rattle.store.specs.Tree.{tree}
use Rattle.terms.specs.declared.limits.Limits.{Limits}
use Rattle.store.specs.declared.verdict.Verdict.TheVariants as verdict
use Rattle.verdicts.specs.declared.leaves.Leaves.{Leaves}
use Rattle.verdicts.specs.Leaves.{reached}
use Rattle.verdicts.specs.Verdict.{VerdictAnswer, verdict_by, verdict_number, verdict_result}
use Rattle.verdicts.specs.Verdict as verdicts
use Rattle.terms.proofs.Cases.{by_test}

no_facts : (n k : ℕ) → k ≤ n → facts_up_to (replicate n blank) k ≡ []
unfolding facts_up_to
no_facts n zero l = refl
no_facts n (suc k) l = rw (get_or-replicate n k blank 0 (omega arith)) (no_facts n k (omega arith))

-- an answer of reading that is, in numbers, one of verdict
abbrev AsVerdict : Read → VerdictAnswer → Type 0
AsVerdict r d = (read_number r ≡ verdict_number d) × (read_result r ≡ verdict_result d)

same_leaves : (l : Leaves) → AsVerdict (Ok (read_by l)) (Ok (verdict_by l))
same_leaves l = by_test (λ a. AsVerdict (Ok (cond a (cond l.never reading.Depends reading.Satisfies) reading.Fails)) (Ok (cond a (cond l.never verdict.Sometimes verdict.Always) verdict.Never))) l.always
    (λ _. by_test (λ n. AsVerdict (Ok (cond n reading.Depends reading.Satisfies)) (Ok (cond n verdict.Sometimes verdict.Always))) l.never (λ _. (refl, refl)) (λ _. (refl, refl)))
    (λ _. (refl, refl))

module _ (limits : Limits) (s : List ℕ) (handle : ℕ) where
  abbrev r : Read
  r = read_sheet limits s handle (replicate (field_count s) 65535)

  abbrev d : VerdictAnswer
  d = verdicts.verdict limits s handle

  -- Reading a sheet of n blanks answers with the verdict, whatever the store and the handle.
  pub blank_reads : (read_number r ≡ verdict_number d) × (read_result r ≡ verdict_result d)
  unfolding read_sheet verdicts.verdict
  blank_reads =
      let n = field_count s in
      let same : read_by (reached_by s handle (replicate n blank)) ≡ read_by (reached (question s) (tree s handle) start) =
      ap (λ xs. read_by (reached (question s) (tree s handle) (state_of xs))) (no_facts n (length (replicate n blank)) (omega (arith, length-replicate n blank))) in
      by_test (λ t. AsVerdict r d) (sound limits s)
      (λ is. by_test (λ t. AsVerdict r d) (is_handle s handle)
      (λ u. rw (is, u, eq-eqb (length (replicate n blank)) n (length-replicate n blank), same) (same_leaves (reached (question s) (tree s handle) start)))
      (λ u. rw (is, u) (refl, refl)))
      (λ is. rw is (refl, refl))
