-- A raw list says the same in another spelling: an equation turned round, or with the same steps added on both sides, simplifies to the same, and it does not matter how often
-- and where it stands.
use Prim.Native.Nat.{ℕ}
use mathlib.Core.Path.{◌≡◌, refl, sym, subst, ◌∙◌}
use mathlib.Core.Logic.{◌↔◌, inl, inr}
use mathlib.Core.List.Memᴰ
use mathlib.Core.List.{List, [], ◌∷◌}
use native.Mathlib.Omega.{arith}
use Rattle.terms.specs.declared.term.Equation.{Equation}
use Rattle.terms.specs.Simplify.{turned, simplify}
use Rattle.terms.proofs.SimplifyForm.{simplify_turned}
use Rattle.terms.proofs.StepsAdded as law
use Rattle.raw_lists.specs.IsResulting.{In, WrittenIn}
use Rattle.raw_lists.specs.OnPaper.{raised, Spells, as_it_is, turned_round, steps_added, Respelled}

-- ---- one equation
-- An equation in another spelling simplifies to the same.
pub spells_same : {e d : Equation} → Spells e d → simplify d ≡ simplify e
spells_same as_it_is = refl
spells_same (turned_round {d = d} s) = simplify_turned d ∙ spells_same s
spells_same (steps_added {d = d} k s) = law.steps_added k d (raised k d) refl (omega arith) refl (omega arith) ∙ spells_same s

-- Turning equations round, adding steps on both sides, doubling and reordering leave the questions that are written.
pub respelled_written : {es ds : List Equation} → Respelled es ds → (q : Equation) → WrittenIn es q ↔ WrittenIn ds q
respelled_written r q = (
  λ w. let d = r.spelled w.0 w.1 in (d.0, d.1, spells_same d.2 ∙ w.2),
  λ w. let e = r.spells w.0 w.1 in (e.0, e.1, sym (spells_same e.2) ∙ w.2),
)

-- Two equations in another spelling: the first turned round, behind the second with k steps more on both sides and before it once more as it is.
pub two_respelled : (k : ℕ) (e d : Equation) → Respelled (e ∷ d ∷ []) (raised k d ∷ turned e ∷ d ∷ [])
two_respelled k e d =
    record {
      spelled = λ x m. elim (Memᴰ.cases_cons m) [
        | inl i ↦ (turned e, Memᴰ.tail (Memᴰ.head refl), subst (λ y. Spells y (turned e)) (sym i) (turned_round as_it_is))
        | inr n ↦ (raised k d, Memᴰ.head refl, subst (λ y. Spells y (raised k d)) (sym (the_last n)) (steps_added k as_it_is))
      ];
      spells = λ x m. elim (Memᴰ.cases_cons m) [
        | inl i ↦ (d, Memᴰ.tail (Memᴰ.head refl), subst (Spells d) (sym i) (steps_added k as_it_is))
        | inr n ↦ elim (Memᴰ.cases_cons n) [
          | inl i ↦ (e, Memᴰ.head refl, subst (Spells e) (sym i) (turned_round as_it_is))
          | inr o ↦ (d, Memᴰ.tail (Memᴰ.head refl), subst (Spells d) (sym (the_last o)) as_it_is)
        ]
      ];
    }
  where
    the_last : {x y : Equation} → In x (y ∷ []) → x ≡ y
    the_last m = elim (Memᴰ.cases_cons m) [ inl i ↦ i | inr n ↦ absurd (Memᴰ.not-nil n) ]
