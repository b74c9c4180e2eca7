-- The rows of a table, one after the other: those that are left have the same first fault as all of them.
use Prim.Native.Nat.{ℕ, ◌+◌, ◌-◌, ◌≤◌, ◌<◌}
use mathlib.Core.Path.{◌≡◌, refl, sym, ap, ◌∙◌}
use mathlib.Core.List.{List}
use mathlib.Core.Option.{Option, none, some}
use native.Mathlib.Omega.{arith}
use Rattle.std.specs.Prelude.{Ok, Err}
use Rattle.tables.specs.declared.answer.TableFault.{TableFault}
use Rattle.tables.specs.declared.row.Row.{Row}
use Rattle.tables.specs.Faults.{if_fine, rows_fault}
use Rattle.tables.specs.Rows.{row_count, row}
use Rattle.tables.specs.TableFault.{Checked, checked}
use Rattle.store.proofs.OpenWays.{one_less, none_left}

module _ (test : ℕ → Row → Option TableFault) (table : List ℕ) where
  -- the rows before the i-th have no fault
  pub record RowsPassed (i : ℕ) : Type 0 where
    pub same : rows_fault test table (row_count table) 0 ≡ rows_fault test table (row_count table - i) i

  pub pass_start : RowsPassed 0
  pass_start = record { same = ap (λ (m : ℕ). rows_fault test table m 0) (omega arith) }

  module _ {i : ℕ} (p : RowsPassed i) where
    pub pass_end : row_count table ≤ i → Ok tt ≡ checked (rows_fault test table (row_count table) 0)
    unfolding rows_fault
    pass_end h = rw (p.same, none_left (row_count table) i h)

    module _ (h : i < row_count table) {f : Checked} (ef : f ≡ checked (test i (row table i))) where
      pass_step : rows_fault test table (row_count table) 0 ≡ if_fine (test i (row table i)) (rows_fault test table (row_count table - (i + 1)) (i + 1))
      unfolding rows_fault
      pass_step = p.same ∙ rw (one_less (row_count table) i h, rows_fault)

      pub pass_next : f ≡ Ok tt → RowsPassed (i + 1)
      pass_next e = go (test i (row table i)) refl
        where
          go : (o : Option TableFault) → test i (row table i) ≡ o → RowsPassed (i + 1)
          go none d = record { same = rw d at pass_step }
          go (some x) d = let c : ◌≡◌ {A = Checked} (Err x) (Ok tt) = sym (ef ∙ ap checked d) ∙ e in let z : ◌≡◌ {A = ℕ} 0 1 = cc in absurd (omega arith)

      pub pass_stop : {x : TableFault} → f ≡ Err x → Err x ≡ checked (rows_fault test table (row_count table) 0)
      pass_stop {x} e = go (test i (row table i)) refl
        where
          go : (o : Option TableFault) → test i (row table i) ≡ o → Err x ≡ checked (rows_fault test table (row_count table) 0)
          go none d = let c : ◌≡◌ {A = Checked} (Err x) (Ok tt) = sym e ∙ ef ∙ ap checked d in let z : ◌≡◌ {A = ℕ} 0 1 = cc in absurd (omega arith)
          go (some y) d = sym e ∙ ef ∙ ap checked d ∙ sym (ap checked (rw d at pass_step))
