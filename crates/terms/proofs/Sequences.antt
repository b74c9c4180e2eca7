-- A sequence of cases can be followed by one more, and is of one line still if the case is.
use mathlib.Core.Path.{◌≡◌}
use Prim.Native.Nat.{ℕ}
use Rattle.terms.specs.declared.simplification.Guard.{Guard}
use Rattle.terms.specs.Lines.{Case, line_of, Sequence, nothing, first, Only, Repeated, ByLine}

pub one_more : {g h k : Guard} → Sequence g h → Case h k → Sequence g k
one_more {k = k} (nothing g) c = first k c (nothing k)
one_more (first h d s) c = first h d (one_more s c)

one_more_only : (n : ℕ) {g h k : Guard} (s : Sequence g h) (c : Case h k) → Only n s → line_of c ≡ n → Only n (one_more s c)
unfolding one_more
one_more_only n (nothing g) c o e = (e, tt)
one_more_only n (first h d s) c o e = (o.0, one_more_only n s c o.1 e)

pub once_more : (n : ℕ) {g h k : Guard} → Repeated n g h → ByLine n h k → Repeated n g k
once_more n r b = (one_more r.0 b.0, one_more_only n r.0 b.0 r.1 b.1)
