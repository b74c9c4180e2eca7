-- The resulting list ascends strictly, as each question is put behind those that come before it and in front of the others; and two lists that ascend strictly
-- and have the same members are equal, since the first of each is the one that comes before all others.
use Prim.Native.Nat.{ℕ}
use mathlib.Core.Path.{◌≡◌, refl, sym, ap, ap₂, ◌∙◌}
use mathlib.Core.Logic.{◌↔◌, inl, inr}
use mathlib.Core.Bool.{Bool, true, false, false≢true}
use mathlib.Core.List.Memᴰ
use mathlib.Core.List.{List, [], ◌∷◌}
use mathlib.Core.Option.{Option, none, some}
use native.Mathlib.Omega.{arith}
use Rattle.terms.specs.declared.term.Equation.{Equation}
use Rattle.terms.specs.Order.{Order, before, StrictTotal}
use Rattle.raw_lists.specs.IsResulting.{In, Ascends, WrittenIn, IsResulting}
use Rattle.raw_lists.specs.Resulting.{remaining, Side, behind, in_front, there, side, with_question, with_equation, collected, resulting}
use Rattle.raw_lists.proofs.ExactMembers.{put_only, exact_members}

module _ (order : Order) (total : StrictTotal (before order)) where
  -- ---- the list ascends
  -- what comes behind another, or in front of it, does so in the order
  side_behind : (q p : Equation) → side order q p ≡ behind → before order p q ≡ true
  unfolding side
  side_behind q p = go (before order p q) refl (before order q p) refl
    where
      go : (s : Bool) → before order p q ≡ s → (t : Bool) → before order q p ≡ t → side order q p ≡ behind → before order p q ≡ true
      go true s t _ e = s
      go false s true t e = absurd (let d = rw (side, s, t) at e in let z : ◌≡◌ {A = ℕ} 0 1 = cc in omega arith)
      go false s false t e = absurd (let d = rw (side, s, t) at e in let z : ◌≡◌ {A = ℕ} 0 1 = cc in omega arith)

  side_in_front : (q p : Equation) → side order q p ≡ in_front → before order q p ≡ true
  unfolding side
  side_in_front q p = go (before order p q) refl (before order q p) refl
    where
      go : (s : Bool) → before order p q ≡ s → (t : Bool) → before order q p ≡ t → side order q p ≡ in_front → before order q p ≡ true
      go true s t _ e = absurd (let d = rw (side, s) at e in let z : ◌≡◌ {A = ℕ} 0 1 = cc in omega arith)
      go false s true t e = t
      go false s false t e = absurd (let d = rw (side, s, t) at e in let z : ◌≡◌ {A = ℕ} 0 1 = cc in omega arith)

  put_ascends : (q : Equation) (ps : List Equation) → Ascends order ps → Ascends order (with_question order q ps)
  unfolding with_question
  put_ascends q [] a = (λ p m. absurd (Memᴰ.not-nil m), tt)
  put_ascends q (p ∷ ps) a = go (put_ascends q ps a.1) (side order q p) refl
    where
      go : Ascends order (with_question order q ps) → (d : Side) → side order q p ≡ d → Ascends order (with_question order q (p ∷ ps))
      go below behind i =
          rw (with_question, i) (λ x m. elim (put_only order total q x ps m) [ inl e ↦ ap (before order p) e ∙ side_behind q p i | inr n ↦ a.0 x n ], below)
      go below in_front i =
          let first = side_in_front q p i in
          rw (with_question, i)
          (λ x m. elim (Memᴰ.cases_cons m) [ inl e ↦ ap (before order q) e ∙ first | inr n ↦ total.transitive q p x first (a.0 x n) ], a)
      go below there i = rw (with_question, i) a

  one_ascends : (e : Equation) (qs : List Equation) → Ascends order qs → Ascends order (with_equation order e qs)
  unfolding with_equation
  one_ascends e qs a = go (remaining e) refl
    where
      go : (r : Option Equation) → remaining e ≡ r → Ascends order (with_equation order e qs)
      go none i = rw (with_equation, i) a
      go (some q) i = rw (with_equation, i) (put_ascends q qs a)

  collected_ascends : (qs es : List Equation) → Ascends order qs → Ascends order (collected order qs es)
  unfolding collected
  collected_ascends qs [] a = a
  collected_ascends qs (e ∷ es) a = collected_ascends (with_equation order e qs) es (one_ascends e qs a)

  -- The resulting list ascends strictly,
  pub resulting_ascends : (es : List Equation) → Ascends order (resulting order es)
  resulting_ascends es = collected_ascends [] es tt

  -- ---- and is the only one
  not_before_itself : (p : Equation) → before order p p ≡ true → ⊥
  not_before_itself p b = false≢true (sym (total.irreflexive p) ∙ b)

  -- the first of a list that has the same members
  same_first : (p q : Equation) {ps qs : List Equation} → Ascends order (p ∷ ps) → Ascends order (q ∷ qs) → In p (q ∷ qs) → In q (p ∷ ps) → p ≡ q
  same_first p q a b m n = elim (Memᴰ.cases_cons m) [
    | inl e ↦ e
    | inr k ↦ elim (Memᴰ.cases_cons n) [
      | inl e ↦ sym e
      | inr l ↦ absurd (not_before_itself p (total.transitive p q p (a.0 q l) (b.0 p k)))
    ]
  ]

  -- a member of the rest is a member of the other's rest
  same_rest : (p q : Equation) {ps qs : List Equation} → Ascends order (p ∷ ps) → p ≡ q → (x : Equation) → In x ps → In x (q ∷ qs) → In x qs
  same_rest p q a e x m n = elim (Memᴰ.cases_cons n) [
    | inl d ↦ absurd (not_before_itself p (ap (before order p) (e ∙ sym d) ∙ a.0 x m))
    | inr k ↦ k
  ]

  -- two lists that ascend strictly and have the same members are equal.
  pub ascending_only : (ps qs : List Equation) → Ascends order ps → Ascends order qs → ((x : Equation) → In x ps ↔ In x qs) → ps ≡ qs
  ascending_only [] [] a b same = refl
  ascending_only [] (q ∷ qs) a b same = absurd (Memᴰ.not-nil ((same q).1 (Memᴰ.head refl)))
  ascending_only (p ∷ ps) [] a b same = absurd (Memᴰ.not-nil ((same p).0 (Memᴰ.head refl)))
  ascending_only (p ∷ ps) (q ∷ qs) a b same =
      let e : p ≡ q = same_first p q a b ((same p).0 (Memᴰ.head refl)) ((same q).1 (Memᴰ.head refl)) in
      let rest : ps ≡ qs =
      ascending_only ps qs a.1 b.1 (λ x. (
        λ m. same_rest p q a e x m ((same x).0 (Memᴰ.tail m)),
        λ m. same_rest q p b (sym e) x m ((same x).1 (Memᴰ.tail m)),
      )) in
      ap₂ (λ (x : Equation) (xs : List Equation). x ∷ xs) e rest

  -- ---- so the resulting list is what a reader believes of it, and nothing else is
  pub resulting_is : (es : List Equation) → IsResulting order es (resulting order es)
  resulting_is es = record { ascends = resulting_ascends es; members = exact_members order total es }

  pub resulting_only : (es qs : List Equation) → IsResulting order es qs → qs ≡ resulting order es
  resulting_only es qs is =
      ascending_only qs (resulting order es) is.ascends (resulting_ascends es)
      (λ q. (λ m. (exact_members order total es q).1 ((is.members q).0 m), λ m. (is.members q).1 ((exact_members order total es q).0 m)))

  -- Raw lists whose equations simplify to the same questions have one resulting list.
  pub same_written : (es ds : List Equation) → ((q : Equation) → WrittenIn es q ↔ WrittenIn ds q) → resulting order es ≡ resulting order ds
  same_written es ds same =
      resulting_only ds (resulting order es) (record {
        ascends = resulting_ascends es;
        members = λ q. (λ m. (same q).0 ((exact_members order total es q).0 m), λ w. (exact_members order total es q).1 ((same q).1 w));
      })
