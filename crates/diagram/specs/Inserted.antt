-- What it says that a diagram was added to a store, and how many entries it took.
use Rattle.std.specs.Prelude.{ℕ, ◌+◌, ◌≤◌, ◌<◌, ◌≡◌, List, length, Option, Some, None}
use Rattle.diagram.specs.Insert.{new_count}
use Rattle.store.specs.Grown.{Agree}
use Rattle.store.specs.Layout.{field_count, question_count, question, used, leaves, room}
use Rattle.store.specs.Meaning.{meaning}
use Rattle.store.specs.Outcome.{Outcome}
use Rattle.store.specs.SoundParts.{Sound}
use Rattle.store.specs.Tree.{Tree, tree}
use Rattle.terms.specs.declared.limits.Limits.{Limits}
use Rattle.terms.specs.Meaning.{Valuation}

-- the diagram t was added to the store s at the handle h, and s' is left
pub record Inserted (limits : Limits) (s : List ℕ) (t : Tree) (h : ℕ) (s' : List ℕ) : Type 0 where
  pub sound : Sound limits s'
  pub handle_in : h < used s' + leaves
  -- the tree of the handle is the diagram
  pub stands : tree s' h ≡ t
  -- an older handle keeps its tree and its meaning
  pub older_tree : (g : ℕ) → g < used s + leaves → tree s' g ≡ tree s g
  pub older_meaning : (g : ℕ) → g < used s + leaves → (v : Valuation) → meaning s' g v ≡ meaning s g v
  pub agree : Agree s s' (used s)
  pub grows : used s ≤ used s'
  pub fields_kept : field_count s' ≡ field_count s
  pub questions_kept : question_count s' ≡ question_count s
  pub question_kept : (k : ℕ) → question s' k ≡ question s k
  pub length_kept : length s' ≡ length s

-- "So used grows by the number of different entries of the finished diagram that weren't there before.", and 51 is answered exactly if "used plus new
-- entries exceeds room".
pub record GrowsBy (limits : Limits) (s : List ℕ) (t : Tree) (o : Outcome (Option ℕ)) : Type 0 where
  pub fits : used s + new_count s t ≤ room limits s → (h : ℕ) × (o.answer ≡ Some h) × (used o.words ≡ used s + new_count s t)
  pub full : room limits s < used s + new_count s t → o.answer ≡ None
