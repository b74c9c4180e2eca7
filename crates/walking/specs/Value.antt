-- What the facts say of a rule, without asking: true, false, or open.
use Rattle.std.specs.Prelude.{ℕ, zero, suc, ◌-◌, Bool, true, false, List, [], ◌∷◌, ◌++◌, get_or}
use Rattle.facts.specs.declared.decision.Decision.{Decision}
use Rattle.facts.specs.declared.decision.Decision.TheVariants.{Always, Never, Open}
use Rattle.facts.specs.State.{State, decide}
use Rattle.store.specs.Layout.{question}
use Rattle.store.specs.Tree.{Tree, leaf, node, tree}
use Rattle.tables.specs.declared.decoding.Part.{Part}
use Rattle.tables.specs.declared.decoding.Part.TheVariants as part
use Rattle.tables.specs.declared.decoding.Shape.{Shape}
use Rattle.tables.specs.declared.decoding.Shape.TheVariants as shape
use Rattle.tables.specs.declared.row.Row.{Row}
use Rattle.tables.specs.Decoding.{decode}
use Rattle.tables.specs.Rows.{row, row_count}
use Rattle.terms.specs.declared.term.Equation.{Equation}
use Rattle.walking.specs.declared.subject.Subject.{Subject}
use Rattle.walking.specs.declared.subject.Subject.TheVariants.{Table, Choice}

abbrev pub leaf_value : Bool → Decision
leaf_value true = Always
leaf_value false = Never

-- Kleene's truth tables, with open for what is not known: known where both agree
abbrev pub agreed : Decision → Decision → Decision
agreed Always Always = Always
agreed Always Never = Open
agreed Always Open = Open
agreed Never Always = Open
agreed Never Never = Never
agreed Never Open = Open
agreed Open b = Open

abbrev pub choose_value : Decision → Decision → Decision → Decision
choose_value Always b c = b
choose_value Never b c = c
choose_value Open b c = agreed b c

-- A handle: follow the entries while their questions are decided, and stop as open at the first that is not.
unfoldable pub tree_value : (ℕ → Equation) → Tree → State → Decision
tree_value ask (leaf b) st = leaf_value b
tree_value ask (node k y n) st = elim (decide st (ask k)) [ Always ↦ tree_value ask y st | Never ↦ tree_value ask n st | Open ↦ Open ]

abbrev pub handle_value : List ℕ → ℕ → State → Decision
handle_value s handle st = tree_value (question s) (tree s handle) st

-- A row, by what it stands for, given what is said of the rows before it.
abbrev pub part_value : (ℕ → Decision) → Part → Decision
part_value before (part.Leaf b) = leaf_value b
part_value before (part.Row i) = before i

abbrev pub shape_value : State → (ℕ → Decision) → Shape → Decision
shape_value st before (shape.Leaf b) = leaf_value b
shape_value st before (shape.Equation e) = decide st e
shape_value st before (shape.Choice a b c) = choose_value (part_value before a) (part_value before b) (part_value before c)

abbrev pub row_value : State → (ℕ → Decision) → Row → Decision
row_value st before r = shape_value st before (decode r)

-- what is said of the first rows, in turn
unfoldable pub row_values : State → List ℕ → ℕ → List Decision
row_values st table zero = []
row_values st table (suc k) =
    let values = row_values st table k in
    values ++ (row_value st (λ i. get_or values i Never) (row table k) ∷ [])

abbrev pub table_value : List ℕ → State → Decision
table_value table st = get_or (row_values st table (row_count table)) (row_count table - 1) Never

-- the subject of a walk: a rule table, or handles of the store
abbrev pub subject_value : List ℕ → Subject → State → Decision
subject_value s (Table rows) st = table_value rows.now st
subject_value s (Choice a b c) st = choose_value (handle_value s a st) (handle_value s b st) (handle_value s c st)
