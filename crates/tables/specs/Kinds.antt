-- "Kinds: 0 never; 1 always; 2 equation of term words a, b ..; 3 not row a; 4 rows a and b; 5 if row a then row b else row c."
use Rattle.std.specs.Prelude.{ℕ, cond, eqb, Result, Ok, Err}
use Rattle.tables.specs.declared.kind.Kind.{Kind}
use Rattle.tables.specs.declared.kind.Kind.TheVariants.{Never, Always, Equation, Not, And, Choose}
use Rattle.tables.specs.declared.kind.UnknownKind.{UnknownKind}

abbrev pub kind_number : Kind → ℕ
kind_number Never = 0
kind_number Always = 1
kind_number Equation = 2
kind_number Not = 3
kind_number And = 4
kind_number Choose = 5

-- the kind that has a number; any other number names none
abbrev pub kind_named : ℕ → Result Kind UnknownKind
kind_named k =
    cond (eqb k (kind_number Never)) (Ok Never)
    (cond (eqb k (kind_number Always)) (Ok Always)
    (cond (eqb k (kind_number Equation)) (Ok Equation)
    (cond (eqb k (kind_number Not)) (Ok Not)
    (cond (eqb k (kind_number And)) (Ok And)
    (cond (eqb k (kind_number Choose)) (Ok Choose)
    (Err (record {})))))))
