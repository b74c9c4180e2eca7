-- "85 an entry not reachable from the root": reachable as in write back, the root itself, and the yes handle and the no handle of each entry reached.
use Rattle.std.specs.Prelude.{ℕ, zero, suc, ◌+◌, Bool, true, false, cond, List, get_or, set, replicate}
use Rattle.store.specs.Layout.{leaves}
use Rattle.normal_form.specs.declared.limits.TableLimits.{TableLimits}
use Rattle.normal_form.specs.Table.{entry_count, entry}

pub data Reaches (t : List ℕ) (root : ℕ) : ℕ → Type 0 where
  itself : Reaches t root root
  by_yes : (i : ℕ) → Reaches t root (i + leaves) → Reaches t root (entry t i).yes
  by_no : (i : ℕ) → Reaches t root (i + leaves) → Reaches t root (entry t i).no

-- ---- as it is computed: a flag for each handle that the limits allow
abbrev pub flag_count : TableLimits → ℕ
flag_count limits = limits.entries + leaves

-- the i-th entry, if it is marked, marks its two handles
unfoldable pub mark_parts : List ℕ → ℕ → List Bool → List Bool
mark_parts t i marks = cond (get_or marks (i + leaves) false) (set (set marks (entry t i).yes true) (entry t i).no true) marks

-- from the entry before the k-th down to the first
unfoldable pub marks_down : List ℕ → ℕ → List Bool → List Bool
marks_down t zero marks = marks
marks_down t (suc k) marks = marks_down t k (mark_parts t k marks)

-- handles named are lower than their entry's own, so one pass from the last entry down finds all that the root reaches
unfoldable pub reachable : TableLimits → List ℕ → ℕ → List Bool
reachable limits t root = marks_down t (entry_count t) (set (replicate (flag_count limits) false) root true)
