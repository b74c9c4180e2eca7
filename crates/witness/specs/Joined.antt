-- Joining two rules both ways round: the calls one after the other, each by the definition that its function's promise names.
use Rattle.std.specs.Prelude.{ℕ, ◌≡◌, List, Option, Some, None}
use Rattle.operations.specs.Built.{Built, if_built}
use Rattle.operations.specs.Operations as operation
use Rattle.store.specs.Opened.{Opened, if_accepted}
use Rattle.store.specs.Open.{open_store}
use Rattle.store.specs.Outcome.{Outcome, outcome}
use Rattle.terms.specs.declared.limits.Limits.{Limits}

-- the handles of two rules joined both ways round, where every call is accepted
abbrev pub Joins : Type 0
Joins = Option (ℕ × ℕ)

-- After an accepted call the rest goes on with the words that it left. A refused call ends it with those words.
unfoldable pub after_opening : Outcome Opened → (List ℕ → Outcome Joins) → Outcome Joins
after_opening o rest = if_accepted o.answer (rest o.words) (λ f. outcome None o.words)

-- The same, where the rest goes on with the handle too.
unfoldable pub after_building : Outcome Built → (ℕ → List ℕ → Outcome Joins) → Outcome Joins
after_building o rest = if_built o.answer (λ h. rest h o.words) (λ f. outcome None o.words)

-- Opens a store, builds two rules, and joins them both ways round.
unfoldable pub joined_both_ways : Limits → ℕ → ℕ → List ℕ → List ℕ → List ℕ → List ℕ → Outcome Joins
joined_both_ways limits n order list first second s =
    after_opening (open_store limits n order list s) (λ w₀.
    after_building (operation.build limits w₀ first) (λ a w₁.
    after_building (operation.build limits w₁ second) (λ b w₂.
    after_building (operation.join limits w₂ a b) (λ c w₃.
    after_building (operation.join limits w₃ b a) (λ d w₄.
    outcome (Some (c, d)) w₄)))))

-- equal handles, where all is accepted
abbrev pub SameHandles : Joins → Type 0
SameHandles (Some handles) = handles.0 ≡ handles.1
SameHandles None = Unit {0}
