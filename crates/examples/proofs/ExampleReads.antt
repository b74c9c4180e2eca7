-- No count of an example is a blank, within limits whose bound is below 65,535. So the example, read as a sheet, is its own one filling, which satisfies the handle.
use Prim.Native.Nat.{ℕ, ◌<◌}
use mathlib.Core.Path.{◌≡◌, ap, ◌∙◌}
use mathlib.Core.Logic.{◌≢◌}
use mathlib.Core.Bool.{true, cond}
use mathlib.Core.List.{List}
use native.Mathlib.Omega.{arith}
use borrow.Author.Tests.{ne_eqb}
use lib.ListN.{get_or}
use Rattle.std.specs.Prelude.{Ok}
use Rattle.examples.specs.CountBound.{count_bound}
use Rattle.examples.specs.Example.{Example, example}
use Rattle.examples.specs.ExampleAnswers.{FirstExample}
use Rattle.reading.specs.declared.answer.Reading.TheVariants.{Satisfies, Fails}
use Rattle.reading.specs.Blanks.{blank, NoBlank}
use Rattle.reading.specs.Read.{read_sheet}
use Rattle.store.specs.Layout.{field_count}
use Rattle.store.specs.Outcome.{Outcome}
use Rattle.store.specs.Sound.{sound}
use Rattle.terms.specs.declared.limits.Limits.{Limits}
use Rattle.terms.specs.Limits.{store_limits}
use Rattle.examples.proofs.ExampleFirst.{example_answers}
use Rattle.examples.proofs.ExampleWithinLimits.{written_sound, example_within_limits, public_example_within}
use Rattle.reading.proofs.CountedSheet.{counted_reads}

module _ (limits : Limits) (low : count_bound limits.terms < blank) (s : List ℕ) (handle : ℕ) (out : List ℕ) where
  abbrev o : Outcome Example
  o = example limits s handle out

  module _ (w : o.answer ≡ Ok tt) where
    is : sound limits s ≡ true
    is = written_sound limits s handle out w

    written : FirstExample s handle o.words
    written = (example_answers limits s is handle out).written w

    -- "The example never writes 65,535"
    pub example_no_blank : NoBlank o.words
    example_no_blank i l =
        let bound = example_within_limits limits s handle out w i (omega (arith, written.right_length)) in
        ne_eqb (get_or o.words i 0) blank (λ e. omega arith)

    -- reading what is written answers 1
    pub example_reads : read_sheet limits s handle o.words ≡ Ok Satisfies
    example_reads =
        counted_reads limits s is handle written.has_handle o.words written.right_length example_no_blank
        ∙ ap (λ t. Ok (cond t Satisfies Fails)) written.satisfies

-- at the institute's limits no count is 65,535: the largest is at most 16,384
module _ (s : List ℕ) (handle : ℕ) (out : List ℕ) (w : (example store_limits s handle out).answer ≡ Ok tt) where
  pub public_example_no_blank : (i : ℕ) → i < field_count s → get_or (example store_limits s handle out).words i 0 ≢ 65535
  public_example_no_blank i l e = omega (arith, public_example_within s handle out w i l)

  pub public_example_reads : read_sheet store_limits s handle (example store_limits s handle out).words ≡ Ok Satisfies
  public_example_reads = example_reads store_limits (omega arith) s handle out w
