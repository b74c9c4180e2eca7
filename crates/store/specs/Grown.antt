-- A store that has grown: entries stand after its last, and nothing else that is read has changed.
use Rattle.std.specs.Prelude.{ℕ, ◌+◌, ◌*◌, ◌≤◌, ◌<◌, ◌≡◌, ◌≢◌, List, length, get_or}
use Rattle.terms.specs.declared.limits.Limits.{Limits}
use Rattle.store.specs.Layout.{used_place, used, entries_start}
use Rattle.store.specs.SoundParts.{Sound}

-- the words of the heading, the list and the first m entries are the same, but for "word 2 the entries used"
pub record Agree (s s' : List ℕ) (m : ℕ) : Type 0 where
  pub word : (k : ℕ) → k < entries_start s + 3 * m → k ≢ used_place → get_or s' k 0 ≡ get_or s k 0

-- s' is s with entries after its last
pub record Grown (limits : Limits) (s s' : List ℕ) : Type 0 where
  pub sound : Sound limits s'
  pub agree : Agree s s' (used s)
  pub grows : used s ≤ used s'
  pub length_kept : length s' ≡ length s
