-- Which fields are named at or below a handle, for rule 8': of a leaf none; of an entry those of its equation, and those named at or below its two handles.
use Rattle.std.specs.Prelude.{ℕ, zero, suc, ◌+◌, Bool, false, ◌||◌, List, get_or, set, replicate}
use Rattle.store.specs.Layout.{leaves}
use Rattle.normal_form.specs.declared.limits.TableLimits.{TableLimits}
use Rattle.normal_form.specs.Reachable.{flag_count}
use Rattle.normal_form.specs.Rules.{names}
use Rattle.normal_form.specs.Table.{entry, asks}

-- Whether f is named at or below each handle, after the first k entries: handles named are lower than their entry's own, so one pass upwards finds it.
unfoldable pub named : TableLimits → ℕ → List ℕ → ℕ → List Bool
named limits f t zero = replicate (flag_count limits) false
named limits f t (suc k) =
    let flags = named limits f t k in
    let e = entry t k in
    set flags (k + leaves) (names f (asks e) || (get_or flags e.yes false || get_or flags e.no false))
