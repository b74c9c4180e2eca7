-- Every case of the table holds: what all its calls give, computed at once, is what the table expects.
use mathlib.Core.Path.{◌≡◌, refl}
use mathlib.Core.List.{List, [], ◌∷◌, map}
use Rattle.cases.specs.Case.{CaseOutcome, outcomes, Case, EachHolds}
use Rattle.cases.specs.Table.{cases}
use Rattle.cases.proofs.AskingComputes.{asking_computes}
use Rattle.cases.proofs.CheckingComputes.{checking_computes}
use Rattle.operations.proofs.Computing.{operations_compute}

found : List Case → List (List CaseOutcome)
found table = map (λ c. outcomes c.start c.calls) table

wanted : List Case → List (List CaseOutcome)
wanted table = map (λ c. c.expected) table

each : (table : List Case) → found table ≡ wanted table → EachHolds table
unfolding found wanted
each [] e = tt
each (c ∷ table) e = (cc, each table (cc))

pub cases_hold : EachHolds cases
unfolding found wanted operations_compute asking_computes checking_computes
cases_hold = each cases refl
