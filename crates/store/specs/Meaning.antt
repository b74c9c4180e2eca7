-- "A handle's meaning under a choice of counts: follow yes or no from the entry by the truth of its question, to a leaf."
use Rattle.std.specs.Prelude.{ℕ, zero, suc, ◌-◌, Bool, cond, List, eqb, ltb}
use Rattle.terms.specs.Meaning.{Valuation, truth}
use Rattle.store.specs.Layout.{question, entry, leaves}

-- the handle that follows a handle: a leaf stays
unfoldable pub next : List ℕ → Valuation → ℕ → ℕ
next s v handle =
    let e = entry s (handle - leaves) in
    cond (ltb handle leaves) handle (cond (truth v (question s e.question)) e.yes e.no)

-- so many steps on
unfoldable pub follow : ℕ → List ℕ → Valuation → ℕ → ℕ
follow zero s v handle = handle
follow (suc steps) s v handle = follow steps s v (next s v handle)

-- In a sound store each handle on the way is smaller than the one before, so as many steps as the handle's number reach a leaf.
abbrev pub meaning : List ℕ → ℕ → Valuation → Bool
meaning s handle v = eqb (follow handle s v handle) 1
