-- What a row stands for, whatever its kind: a leaf, an equation, or if-then-else of three parts, each a leaf or a lower row.
use Rattle.std.specs.Prelude.{ℕ, ◌<◌, Bool, true, false, cond, eqb}
use Rattle.tables.specs.declared.decoding.Part.{Part}
use Rattle.tables.specs.declared.decoding.Part.TheVariants as part
use Rattle.tables.specs.declared.decoding.Shape.{Shape}
use Rattle.tables.specs.declared.decoding.Shape.TheVariants.{Leaf, Equation, Choice}
use Rattle.tables.specs.declared.row.Row.{Row}
use Rattle.terms.specs.Meaning.{Valuation, truth}
use Rattle.terms.specs.Words.{equation, term_of}

-- "0 never; 1 always; 2 equation of term words a, b, ..; 3 not row a; 4 rows a and b; 5 if row a then row b else row c": not a is if a then never
-- else always, and a and b is if a then b else never. (Another kind is refused; here it is never.)
unfoldable pub decode : Row → Shape
decode r =
    cond (eqb r.kind 0) (Leaf false)
    (cond (eqb r.kind 1) (Leaf true)
    (cond (eqb r.kind 2) (Equation (equation (term_of r.a) (term_of r.b)))
    (cond (eqb r.kind 3) (Choice (part.Row r.a) (part.Leaf false) (part.Leaf true))
    (cond (eqb r.kind 4) (Choice (part.Row r.a) (part.Row r.b) (part.Leaf false))
    (cond (eqb r.kind 5) (Choice (part.Row r.a) (part.Row r.b) (part.Row r.c))
    (Leaf false))))))

-- the truth of a part and of a shape, given the truth of the rows
abbrev pub part_truth : (ℕ → Bool) → Part → Bool
part_truth before (part.Leaf b) = b
part_truth before (part.Row i) = before i

abbrev pub shape_truth : Valuation → (ℕ → Bool) → Shape → Bool
shape_truth v before (Leaf b) = b
shape_truth v before (Equation e) = truth v e
shape_truth v before (Choice a b c) = cond (part_truth before a) (part_truth before b) (part_truth before c)

-- "references go to lower rows": those of the i-th row
abbrev pub LowerPart : ℕ → Part → Type 0
LowerPart i (part.Leaf b) = Unit {0}
LowerPart i (part.Row j) = j < i

abbrev pub Lower : ℕ → Shape → Type 0
Lower i (Leaf b) = Unit {0}
Lower i (Equation e) = Unit {0}
Lower i (Choice a b c) = LowerPart i a × LowerPart i b × LowerPart i c
