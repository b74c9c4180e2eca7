-- What a verdict says of a meaning: never, that no choice of counts makes it true; always, that every one does; sometimes, that one does and one
-- doesn't. A refusal says what can't be: on a handle of a sound store it is never given.
use Rattle.std.specs.Prelude.{◌≡◌, Bool, true, false, Ok, Err}
use Rattle.terms.specs.Meaning.{Valuation}
use Rattle.store.specs.declared.verdict.Verdict.TheVariants.{Never, Always, Sometimes}
use Rattle.verdicts.specs.Verdict.{VerdictAnswer}

abbrev pub VerdictSays : VerdictAnswer → (Valuation → Bool) → Type 0
VerdictSays (Ok Never) means = (v : Valuation) → means v ≡ false
VerdictSays (Ok Always) means = (v : Valuation) → means v ≡ true
VerdictSays (Ok Sometimes) means = ((v : Valuation) × (means v ≡ true)) × ((v : Valuation) × (means v ≡ false))
VerdictSays (Err f) means = ⊥
