-- Adding a diagram to a store: "New entries are added with the yes part's first, then the no part's, then the entry itself; one already present
-- is used again."
use Rattle.std.specs.Prelude.{ℕ, zero, suc, ◌+◌, Bool, true, false, cond, ◌||◌, List, [], ◌∷◌, ltb, length, Option, Some, None}
use Rattle.store.specs.Entries.{find_entry, with_entry}
use Rattle.terms.specs.declared.limits.Limits.{Limits}
use Rattle.store.specs.declared.entries.Entry.{Entry}
use Rattle.store.specs.Layout.{used, leaves, entry_of, room}
use Rattle.store.specs.Outcome.{Outcome, outcome}
use Rattle.store.specs.Tree.{Tree, leaf, node, tree}
use Rattle.diagram.specs.Finish.{same_tree}

-- an entry that is not there is added after the last, if there is room
unfoldable pub add_entry : Limits → List ℕ → Entry → Outcome (Option ℕ)
add_entry limits s e = cond (ltb (used s) (room limits s)) (outcome (Some (used s + leaves)) (with_entry s e)) (outcome None s)

-- "one already present is used again"
unfoldable pub place_entry : Limits → List ℕ → Entry → Outcome (Option ℕ)
place_entry limits s e =
    let i = find_entry s (used s) e in
    cond (ltb i (used s)) (outcome (Some (i + leaves)) s) (add_entry limits s e)

-- go on with the handle and the words, unless the store was full
abbrev pub then_place : Outcome (Option ℕ) → (ℕ → List ℕ → Outcome (Option ℕ)) → Outcome (Option ℕ)
then_place o next = elim o.answer as (λ _. Outcome (Option ℕ)) [ Some h ↦ next h o.words | None ↦ outcome None o.words ]

abbrev pub leaf_handle : Bool → ℕ
leaf_handle true = 1
leaf_handle false = 0

unfoldable pub insert : Limits → List ℕ → Tree → Outcome (Option ℕ)
insert limits s (leaf b) = outcome (Some (leaf_handle b)) s
insert limits s (node k y n) =
    then_place (insert limits s y) (λ hy s₁. then_place (insert limits s₁ n) (λ hn s₂. place_entry limits s₂ (entry_of k hy hn)))

-- ---- how many entries are added
-- the test passes for some number below
unfoldable pub some_below : ℕ → (ℕ → Bool) → Bool
some_below zero p = false
some_below (suc k) p = some_below k p || p k

-- a handle of the store has this tree
unfoldable pub is_stored : List ℕ → Tree → Bool
is_stored s t = some_below (used s + leaves) (λ h. same_tree (tree s h) t)

unfoldable pub is_among : Tree → List Tree → Bool
is_among t [] = false
is_among t (x ∷ xs) = same_tree x t || is_among t xs

-- a tree is collected if no handle of the store has it and it was not collected before
unfoldable pub collect : List ℕ → Tree → List Tree → List Tree
collect s t xs = cond (is_stored s t || is_among t xs) xs (t ∷ xs)

-- "different entries of the finished diagram that weren't there before": those of a diagram, collected after others
unfoldable pub new_trees : List ℕ → Tree → List Tree → List Tree
new_trees s (leaf b) xs = xs
new_trees s (node k y n) xs = collect s (node k y n) (new_trees s n (new_trees s y xs))

abbrev pub new_count : List ℕ → Tree → ℕ
new_count s t = length (new_trees s t [])
