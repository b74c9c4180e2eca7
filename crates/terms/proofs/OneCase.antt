-- Whatever case leads on from a guard is one of the five lines, so if none of them applies, no case does, and the first that applies is a case.
use mathlib.Core.Path.{refl}
use Rattle.std.proofs.Common.{Option, Some, None}
use Rattle.std.specs.Option.{option_or}
use Rattle.terms.specs.declared.simplification.Guard.{Guard}
use Rattle.terms.specs.Lines.{line_1, line_2, line_3, line_4, line_5, Normal, Tried, Stepped}

no_line : {g : Guard} → Tried 1 g None → Tried 2 g None → Tried 3 g None → Tried 4 g None → Tried 5 g None → Normal g
no_line a b c d e h (line_1 x) = a h (line_1 x, refl)
no_line a b c d e h (line_2 y x) = b h (line_2 y x, refl)
no_line a b c d e h (line_3 x w) = c h (line_3 x w, refl)
no_line a b c d e h (line_4 x m w) = d h (line_4 x m w, refl)
no_line a b c d e h (line_5 r t i) = e h (line_5 r t i, refl)

pub first_line : (g : Guard) (p q r s t : Option Guard) → Tried 1 g p → Tried 2 g q → Tried 3 g r → Tried 4 g s → Tried 5 g t
    → Stepped g (option_or (option_or (option_or (option_or p q) r) s) t)
first_line g (Some h) q r s t a b c d e = a.0
first_line g None (Some h) r s t a b c d e = b.0
first_line g None None (Some h) s t a b c d e = c.0
first_line g None None None (Some h) t a b c d e = d.0
first_line g None None None None (Some h) a b c d e = e.0
first_line g None None None None None a b c d e = no_line a b c d e
