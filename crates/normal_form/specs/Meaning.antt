-- The meaning of a handle under a choice of counts, as document 01 has it: follow yes or no from the entry by the truth of its equation, to a leaf.
use Rattle.std.specs.Prelude.{ℕ, zero, suc, ◌-◌, Bool, cond, List, eqb, ltb}
use Rattle.store.specs.Layout.{leaves}
use Rattle.terms.specs.Meaning.{Valuation, truth}
use Rattle.normal_form.specs.Table.{entry, asks}

-- the handle that follows a handle: a leaf stays
unfoldable pub next : List ℕ → Valuation → ℕ → ℕ
next t v handle =
    let e = entry t (handle - leaves) in
    cond (ltb handle leaves) handle (cond (truth v (asks e)) e.yes e.no)

-- so many steps on
unfoldable pub follow : ℕ → List ℕ → Valuation → ℕ → ℕ
follow zero t v handle = handle
follow (suc steps) t v handle = follow steps t v (next t v handle)

-- Where each handle on the way is lower than the one before, as many steps as the handle's number reach a leaf.
abbrev pub meaning : List ℕ → ℕ → Valuation → Bool
meaning t handle v = eqb (follow handle t v handle) 1
