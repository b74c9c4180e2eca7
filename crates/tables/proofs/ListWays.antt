-- A look through the questions of a list, by how many stand behind each, goes down the list as the definition does.
use Prim.Native.Nat.{ℕ, zero, suc, ◌+◌, ◌-◌}
use mathlib.Core.Path.{◌≡◌, refl}
use mathlib.Core.Bool.{◌||◌}
use mathlib.Core.List.{List}
use native.Mathlib.Omega.{arith}
use Rattle.std.specs.List.{list_any, range_with_len}
use Rattle.tables.specs.Listed.{same_equation, on_list}
use Rattle.store.specs.Layout.{question}
use Rattle.terms.specs.declared.term.Equation.{Equation}

-- the first m questions of n, after a have been passed
pub list_any-questions : (s : List ℕ) (q : Equation) (n a m : ℕ) → a + m ≡ n → list_any (λ k. same_equation (question s (n - k)) q) (range_with_len a m) ≡ on_list s q m
unfolding on_list
list_any-questions s q n a zero e = refl
list_any-questions s q n a (suc m) e =
    let left : n - a ≡ suc m = omega (arith, e) in
    (λ i. same_equation (question s (left i)) q || list_any-questions s q n (a + 1) m (omega (arith, e)) i)
