-- In a table that passed number 83 the handles of each entry are lower than its own, since each entry passed its test.
use Prim.Native.Nat.{ℕ, ◌+◌, ◌<◌}
use mathlib.Core.Path.{◌≡◌, ap}
use mathlib.Core.Bool.{true}
use mathlib.Core.List.{List}
use native.Mathlib.Omega.{arith}
use Rattle.checking.specs.Needs.{parts_lower}
use Rattle.normal_form.specs.declared.entry.Entry.{Entry}
use Rattle.normal_form.specs.Check.{handles_lower}
use Rattle.normal_form.specs.Table.{entry_count, entry}
use Rattle.normal_form.proofs.PassesKept.{lower_yes, lower_no}
use Rattle.store.specs.Layout.{leaves}
use Rattle.store.proofs.Tests.{all_below_says}

module _ (t : List ℕ) (lower : parts_lower t ≡ true) {i : ℕ} (h : i < entry_count t) {e : Entry} (ee : e ≡ entry t i) where
  here : handles_lower (entry t i) i ≡ true
  here = all_below_says (λ i. handles_lower (entry t i) i) (entry_count t) lower i h

  pub yes_lower : e.yes < i + leaves
  yes_lower = omega (arith, ap (λ (d : Entry). d.yes) ee, lower_yes (entry t i) i here)

  pub no_lower : e.no < i + leaves
  no_lower = omega (arith, ap (λ (d : Entry). d.no) ee, lower_no (entry t i) i here)
