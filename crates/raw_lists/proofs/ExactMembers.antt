-- The resulting list has the questions that raw equations simplify to, and no others: what remains of an equation is the question that it simplifies to, putting a question into
-- a list adds that question alone, and one is left out only where neither it nor one that is there comes before the other, so that they are one.
use Prim.Native.Nat.{ℕ}
use mathlib.Core.Path.{◌≡◌, refl, sym, ap, ◌∙◌}
use mathlib.Core.Logic.{◌↔◌, ◌⊎◌, inl, inr}
use mathlib.Core.Bool.{Bool, true, false}
use mathlib.Core.List.Memᴰ
use mathlib.Core.List.{List, [], ◌∷◌}
use mathlib.Core.Option.{Option, none, some}
use native.Mathlib.Omega.{arith}
use Rattle.terms.specs.declared.simplification.Guard.{Guard}
use Rattle.terms.specs.declared.simplification.Guard.TheVariants.{Never, Always, Question}
use Rattle.terms.specs.declared.term.Equation.{Equation}
use Rattle.terms.specs.Order.{Order, before, StrictTotal}
use Rattle.terms.specs.Simplify.{simplify}
use Rattle.terms.proofs.QuestionOrder.{neither_before}
use Rattle.raw_lists.specs.IsResulting.{In, WrittenIn}
use Rattle.raw_lists.specs.Resulting.{remaining, Side, behind, in_front, there, side, with_question, with_equation, collected, resulting}

-- ---- what remains of a raw equation
remains_only : (e q : Equation) → remaining e ≡ some q → simplify e ≡ Question q
unfolding remaining
remains_only e q = go (simplify e) refl
  where
    go : (g : Guard) → simplify e ≡ g → remaining e ≡ some q → simplify e ≡ Question q
    go Never i r = absurd (let d = rw (remaining, i) at r in let z : ◌≡◌ {A = ℕ} 0 1 = cc in omega arith)
    go Always i r = absurd (let d = rw (remaining, i) at r in let z : ◌≡◌ {A = ℕ} 0 1 = cc in omega arith)
    go (Question p) i r = let d = rw (remaining, i) at r in i ∙ ap Question (cc)

remains_all : (e q : Equation) → simplify e ≡ Question q → remaining e ≡ some q
unfolding remaining
remains_all e q i = rw (remaining, i)

module _ (order : Order) (total : StrictTotal (before order)) where
  -- ---- a question put into a list
  -- one that is taken for one that is there is that one
  side_there : (q p : Equation) → side order q p ≡ there → p ≡ q
  unfolding side
  side_there q p = go (before order p q) refl (before order q p) refl
    where
      go : (s : Bool) → before order p q ≡ s → (t : Bool) → before order q p ≡ t → side order q p ≡ there → p ≡ q
      go true s t _ e = absurd (let d = rw (side, s) at e in let z : ◌≡◌ {A = ℕ} 0 1 = cc in omega arith)
      go false s true t e = absurd (let d = rw (side, s, t) at e in let z : ◌≡◌ {A = ℕ} 0 1 = cc in omega arith)
      go false s false t e = neither_before total p q s t

  module _ (q x : Equation) where
    -- nothing comes in but q
    pub put_only : (ps : List Equation) → In x (with_question order q ps) → (x ≡ q) ⊎ In x ps
    unfolding with_question
    put_only [] m = Memᴰ.cases_cons m
    put_only (p ∷ ps) m = go (put_only ps) (side order q p) refl m
      where
        go : (In x (with_question order q ps) → (x ≡ q) ⊎ In x ps) → (d : Side) → side order q p ≡ d → In x (with_question order q (p ∷ ps)) → (x ≡ q) ⊎ In x (p ∷ ps)
        go below behind i m = elim (Memᴰ.cases_cons (rw (with_question, i) at m)) [
          | inl e ↦ inr (Memᴰ.head e)
          | inr n ↦ elim (below n) [ inl e ↦ inl e | inr k ↦ inr (Memᴰ.tail k) ]
        ]
        go below in_front i m = Memᴰ.cases_cons (rw (with_question, i) at m)
        go below there i m = inr (rw (with_question, i) at m)

    -- q and all that was there are in it
    put_all : (ps : List Equation) → (x ≡ q) ⊎ In x ps → In x (with_question order q ps)
    unfolding with_question
    put_all [] (inl e) = Memᴰ.head e
    put_all [] (inr n) = absurd (Memᴰ.not-nil n)
    put_all (p ∷ ps) m = go (put_all ps) (side order q p) refl m
      where
        go : ((x ≡ q) ⊎ In x ps → In x (with_question order q ps)) → (d : Side) → side order q p ≡ d → (x ≡ q) ⊎ In x (p ∷ ps) → In x (with_question order q (p ∷ ps))
        go below behind i (inl e) = rw (with_question, i) (Memᴰ.tail (below (inl e)))
        go below behind i (inr n) = rw (with_question, i) (elim (Memᴰ.cases_cons n) [ inl e ↦ Memᴰ.head e | inr k ↦ Memᴰ.tail (below (inr k)) ])
        go below in_front i (inl e) = rw (with_question, i) (Memᴰ.head e)
        go below in_front i (inr n) = rw (with_question, i) (Memᴰ.tail n)
        go below there i (inl e) = rw (with_question, i) (Memᴰ.head (e ∙ sym (side_there q p i)))
        go below there i (inr n) = rw (with_question, i) n

  -- ---- a raw equation
  module _ (e x : Equation) (qs : List Equation) where
    one_only : In x (with_equation order e qs) → (remaining e ≡ some x) ⊎ In x qs
    unfolding with_equation
    one_only = go (remaining e) refl
      where
        go : (r : Option Equation) → remaining e ≡ r → In x (with_equation order e qs) → (remaining e ≡ some x) ⊎ In x qs
        go none i m = inr (rw (with_equation, i) at m)
        go (some q) i m = elim (put_only q x qs (rw (with_equation, i) at m)) [ inl d ↦ inl (i ∙ ap some (sym d)) | inr n ↦ inr n ]

    one_all : (remaining e ≡ some x) ⊎ In x qs → In x (with_equation order e qs)
    unfolding with_equation
    one_all (inl i) = rw (with_equation, i) (put_all x x qs (inl refl))
    one_all (inr n) = go (remaining e) refl
      where
        go : (r : Option Equation) → remaining e ≡ r → In x (with_equation order e qs)
        go none i = rw (with_equation, i) n
        go (some q) i = rw (with_equation, i) (put_all q x qs (inr n))

  -- ---- raw equations in turn
  module _ (x : Equation) where
    collected_only : (qs es : List Equation) → In x (collected order qs es) → In x qs ⊎ WrittenIn es x
    unfolding collected
    collected_only qs [] m = inl m
    collected_only qs (e ∷ es) m = elim (collected_only (with_equation order e qs) es m) [
      | inl n ↦ elim (one_only e x qs n) [ inl i ↦ inr (e, Memᴰ.head refl, remains_only e x i) | inr k ↦ inl k ]
      | inr w ↦ inr (w.0, Memᴰ.tail w.1, w.2)
    ]

    collected_all : (qs es : List Equation) → In x qs ⊎ WrittenIn es x → In x (collected order qs es)
    unfolding collected
    collected_all qs [] (inl n) = n
    collected_all qs [] (inr w) = absurd (Memᴰ.not-nil w.1)
    collected_all qs (e ∷ es) (inl n) = collected_all (with_equation order e qs) es (inl (one_all e x qs (inr n)))
    collected_all qs (e ∷ es) (inr w) = elim (Memᴰ.cases_cons w.1) [
      | inl d ↦ collected_all (with_equation order e qs) es (inl (one_all e x qs (inl (remains_all e x (ap simplify (sym d) ∙ w.2)))))
      | inr k ↦ collected_all (with_equation order e qs) es (inr (w.0, k, w.2))
    ]

  -- A question is in the resulting list exactly if some equation of the raw list simplifies to it.
  pub exact_members : (es : List Equation) (q : Equation) → In q (resulting order es) ↔ WrittenIn es q
  exact_members es q =
      (λ m. elim (collected_only q [] es m) [ inl n ↦ absurd (Memᴰ.not-nil n) | inr w ↦ w ], λ w. collected_all q [] es (inr w))

  -- So every raw equation is never, always or on the list.
  pub each_accounted : (es : List Equation) (e : Equation) → In e es → (simplify e ≡ Never) ⊎ (simplify e ≡ Always) ⊎ ((q : Equation) × (simplify e ≡ Question q) × In q (resulting order es))
  each_accounted es e m = go (simplify e) refl
    where
      go : (g : Guard) → simplify e ≡ g → (simplify e ≡ Never) ⊎ (simplify e ≡ Always) ⊎ ((q : Equation) × (simplify e ≡ Question q) × In q (resulting order es))
      go Never i = inl i
      go Always i = inr (inl i)
      go (Question q) i = inr (inr (q, i, (exact_members es q).1 (e, m, i)))
