-- The verdict is right by meaning: the leaves reached with no facts, which every choice of counts fits, say what the handle means.
use Prim.Native.Nat.{ℕ, ◌+◌, ◌<◌}
use mathlib.Core.Path.{◌≡◌, refl}
use mathlib.Core.Bool.{true}
use mathlib.Core.List.{List, []}
use borrow.Author.Tests.{lt-ltb}
use Rattle.facts.specs.State.{start}
use Rattle.terms.specs.declared.limits.Limits.{Limits}
use Rattle.store.specs.Layout.{used, question, leaves}
use Rattle.store.specs.Meaning.{meaning}
use Rattle.store.specs.Sound.{sound}
use Rattle.store.specs.Tree.{tree}
use Rattle.std.specs.Prelude.{Ok}
use Rattle.store.specs.declared.verdict.Verdict.TheVariants.{Never, Always, Sometimes}
use Rattle.verdicts.specs.Leaves.{reached}
use Rattle.verdicts.specs.Verdict.{verdict_by, verdict}
use Rattle.verdicts.specs.VerdictSays.{VerdictSays}
use Rattle.store.proofs.SoundFacts.{sound_says}
use Rattle.verdicts.proofs.LeavesMean.{by_leaves_says}

module _ (limits : Limits) (s : List ℕ) (handle : ℕ) (is : sound limits s ≡ true) (h : handle < used s + leaves) where
  verdict_is : verdict limits s handle ≡ Ok (verdict_by (reached (question s) (tree s handle) start))
  unfolding verdict
  verdict_is = rw (is, lt-ltb handle (used s + leaves) h) refl

  -- "0 never, 1 always, 2 sometimes, by meaning, in any sound store"
  pub verdict_says : VerdictSays (verdict limits s handle) (meaning s handle)
  verdict_says = rw verdict_is
      (by_leaves_says (sound_says limits s is) handle h [] refl (λ d. VerdictSays (Ok d) (meaning s handle)) Never Always Sometimes
      (λ none v. none v tt) (λ each v. each v tt) (λ yes no. ((yes.0, yes.2), (no.0, no.2))))
