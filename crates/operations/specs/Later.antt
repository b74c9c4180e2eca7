-- A store after calls: what held of it and of its handles before still holds.
use Rattle.std.specs.Prelude.{ℕ, ◌+◌, ◌≤◌, ◌<◌, ◌≡◌, List, length}
use Rattle.diagram.specs.Questions.{questions}
use Rattle.store.specs.Layout.{field_count, used, store_order, leaves}
use Rattle.store.specs.Meaning.{meaning}
use Rattle.store.specs.SoundParts.{Sound}
use Rattle.store.specs.Tree.{tree}
use Rattle.terms.specs.declared.limits.Limits.{Limits}
use Rattle.terms.specs.Meaning.{Valuation}

-- the store s' is sound, and what held of s and its handles holds of s'
pub record Later (limits : Limits) (s s' : List ℕ) : Type 0 where
  pub sound : Sound limits s'
  pub grows : used s ≤ used s'
  pub older_tree : (g : ℕ) → g < used s + leaves → tree s' g ≡ tree s g
  pub older_meaning : (g : ℕ) → g < used s + leaves → (v : Valuation) → meaning s' g v ≡ meaning s g v
  pub same_fields : field_count s' ≡ field_count s
  pub same_order : store_order s' ≡ store_order s
  pub same_questions : questions s' ≡ questions s
  pub length_kept : length s' ≡ length s
