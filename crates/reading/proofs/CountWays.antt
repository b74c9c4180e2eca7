-- The facts of a sheet worked into a record field by field: a blank changes nothing, and a count is a yes that the sheet's own numbers fit.
use Prim.Native.Nat.{ℕ, suc, ◌+◌, ◌≤◌, ◌<◌}
use mathlib.Core.Path.{◌≡◌, refl, sym, ap, subst, ◌∙◌}
use mathlib.Core.Logic.{◌≢◌}
use mathlib.Core.Bool.{true}
use mathlib.Core.List.{List}
use native.Mathlib.Omega.{arith}
use native.Mathlib.Numerals.{add-one}
use borrow.Author.Tests.{eq-eqb, ne_eqb}
use lib.ListN.{length, get_or}
use Rattle.facts.specs.declared.record.Facts.{Facts}
use Rattle.facts.specs.Facts.{fact}
use Rattle.facts.specs.Least.{counts}
use Rattle.facts.specs.Needs.{CanAddFact}
use Rattle.facts.specs.Record.{state, last_field, Small}
use Rattle.facts.specs.State.{free, start, yes_to, work_in, state_of}
use Rattle.facts.proofs.HeldFacts.{holds_none, holds_ready, worked_yes}
use Rattle.facts.proofs.LeastWays.{counts_small}
use Rattle.reading.specs.Blanks.{blank, facts_up_to}
use Rattle.reading.specs.Needs.{HoldsCounts}
use Rattle.terms.specs.declared.term.Equation.{Equation}
use Rattle.terms.specs.Limits.{most_count}
use Rattle.reading.proofs.SheetFacts.{up_to_free}

pub counted_none : (sheet : List ℕ) {f : Facts} → state f ≡ start → HoldsCounts sheet 0 f
unfolding facts_up_to
counted_none sheet e = record { is = e; holds = holds_none most_count e }

-- ---- one field more
module _ {sheet : List ℕ} {k : ℕ} {f : Facts} (few : length sheet ≤ last_field) (l : k < length sheet) (so_far : HoldsCounts sheet k f) where
  pub blank_passed : get_or sheet k 0 ≡ blank → HoldsCounts sheet (k + 1) f
  unfolding facts_up_to
  blank_passed e = record { is = rw (add-one, eq-eqb (get_or sheet k 0) blank e) so_far.is; holds = so_far.holds }

  module _ (n : get_or sheet k 0 ≢ blank) (low : get_or sheet k 0 ≤ most_count) {q : Equation} (eq : q ≡ counts (k + 1) (get_or sheet k 0)) where
    small_count : Small most_count q
    small_count = subst (Small most_count) (sym eq) (counts_small (omega (arith, few, l)) low)

    -- the state with the count is that of one field more
    one_more : yes_to (state f) q ≡ state_of (facts_up_to sheet (k + 1))
    unfolding facts_up_to
    one_more = rw (add-one, ne_eqb (get_or sheet k 0) blank n) (ap (λ x. yes_to (state f) x) same ∙ ap (λ s. yes_to s (counts (suc k) (get_or sheet k 0))) so_far.is)
      where
        same : q ≡ counts (suc k) (get_or sheet k 0)
        same = eq ∙ rw add-one refl

    still_free : free (yes_to (state f) q) ≡ true
    still_free = ap free one_more ∙ up_to_free sheet (k + 1)

    pub can_add : CanAddFact f (fact q true)
    can_add = record { can = record { askable = holds_ready so_far.holds (omega arith) (omega arith) q small_count; leaves_some = still_free } }

    pub count_added : {g : Facts} → state g ≡ work_in (state f) q true → HoldsCounts sheet (k + 1) g
    count_added e = record { is = e ∙ one_more; holds = worked_yes so_far.holds q small_count still_free e }
