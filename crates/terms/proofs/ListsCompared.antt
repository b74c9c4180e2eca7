-- On lists of one length the order of std is the one by which the first numbers that differ decide.
use Prim.Native.Nat.{ℕ}
use mathlib.Core.Path.{◌≡◌, refl}
use mathlib.Core.List.{List, [], ◌∷◌}
use native.Mathlib.Omega.{arith}
use lib.ListN.{length}
use Rattle.std.specs.Prelude.{Some}
use Rattle.std.specs.Ordering.{nat_cmp, is_lt, is_some_and}
use Rattle.std.specs.Cmp.Lexicographic.{slice_partial_cmp}
use Rattle.std.proofs.lemmas.Bool.Decides.{nat_tests}
use Rattle.terms.specs.Order.{lex}

pub lex_is : (xs ys : List ℕ) → length xs ≡ length ys → is_some_and is_lt (slice_partial_cmp (λ x y. Some (nat_cmp x y)) xs ys) ≡ lex xs ys
unfolding lex
lex_is [] [] l = refl
lex_is [] (y ∷ ys) l = absurd (omega arith)
lex_is (x ∷ xs) [] l = absurd (omega arith)
lex_is (x ∷ xs) (y ∷ ys) l = let more = lex_is xs ys (omega arith) in grind (arith, nat_tests, more)
