-- A walk can start at a handle of a sound store from no facts.
use Prim.Native.Nat.{ℕ, ◌+◌}
use mathlib.Core.Path.{◌≡◌, sym, ◌∙◌}
use mathlib.Core.Bool.{Bool, true}
use mathlib.Core.List.{List}
use native.Mathlib.Omega.{arith}
use borrow.Author.Tests.{ltb-true}
use Rattle.facts.specs.declared.record.Facts.{Facts}
use Rattle.facts.specs.Record.{state}
use Rattle.facts.specs.State.{start}
use Rattle.terms.specs.declared.limits.Limits.{Limits}
use Rattle.store.specs.Layout.{used, leaves, is_handle}
use Rattle.terms.specs.Limits.{most_count}
use Rattle.terms.specs.Needs.{FitLimits}
use Rattle.store.specs.Sound.{sound}
use Rattle.verdicts.specs.Needs.{CanDescend}
use Rattle.verdicts.proofs.DescentLaws.{descent_starts}

module _ (limits : Limits) (s : List ℕ) {b : Bool} (eb : b ≡ sound limits s) (e : b ≡ true) where
  pub can_start : {handle h : ℕ} {c : Bool} → FitLimits limits → c ≡ is_handle s handle → c ≡ true → h ≡ handle → (f : Facts) → state f ≡ start → CanDescend most_count s h f
  can_start {handle} {h} fit ec d eh f ef =
      descent_starts limits s fit (sym eb ∙ e) h (omega (arith, ltb-true handle (used s + leaves) (sym ec ∙ d))) most_count (omega (arith, fit.counts_fit)) (omega arith) f ef
