-- Sets of fields as binary digits: the digit of a union is set if one of the two is, and a power of two has one digit. So the sets that the pass up leaves have the
-- digits that the flags of each field are.
use Prim.Native.Nat.{ℕ, zero, suc, ◌+◌, ◌-◌, ◌*◌, ◌/◌, ◌%◌, ◌^◌, ◌≤◌, max}
use mathlib.Core.Path.{◌≡◌, refl, sym, ap, ap₂, ◌∙◌}
use mathlib.Core.Bool.{false, ◌||◌}
use mathlib.Core.List.{List}
use native.Mathlib.Nat.{pow-suc, mul_comm, mul-div_cancel, div-eq_of_lt, zero-div}
use native.Mathlib.Decide.{ℕ_discrete, dec_lt}
use native.Mathlib.Omega.{arith}
use borrow.Author.Tests.{eq-eqb, ne_eqb}
use lib.Bits.{bit_or, or_step, or_shr}
use lib.Dec.{eqb}
use lib.ListN.{length, get_or, length-set, length-replicate}
use lib.Pow.{pow_pos, pow-lt, pow-add}
use lib.Seq.{get_or-set_same, get_or-set_other}
use Rattle.checking.specs.FieldSets.{has_field, both_fields, fields_at, field_sets}
use Rattle.checking.specs.Needs.{most_handles}
use Rattle.normal_form.proofs.NamedFlags.{flags_length}
use Rattle.normal_form.specs.Limits.{most_table_entries, table_limits}
use Rattle.normal_form.specs.Named.{named}
use Rattle.normal_form.specs.Table.{entry, asks}
use Rattle.store.specs.Layout.{leaves}
use Rattle.terms.proofs.Cases.{by_eq}
use Rattle.terms.proofs.OneValue.{all_alike}

-- ---- one digit
last_digit : (a b : ℕ) → eqb (bit_or a b % 2) 1 ≡ (eqb (a % 2) 1 || eqb (b % 2) 1)
last_digit a b =
    let m : bit_or a b % 2 ≡ max (a % 2) (b % 2) = omega (arith, or_step a b) in
    ap (λ x. eqb x 1) m
    ∙ by_eq (λ s. eqb (max (a % 2) (b % 2)) 1 ≡ (s || eqb (b % 2) 1)) (a % 2) 1
    (λ e. eq-eqb (max (a % 2) (b % 2)) 1 (omega arith))
    (λ n. let z : max (a % 2) (b % 2) ≡ b % 2 = omega arith in ap (λ x. eqb x 1) z)

-- the digit of a union
or_has : (f a b : ℕ) → has_field f (bit_or a b) ≡ (has_field f a || has_field f b)
or_has f a b = ap (λ x. eqb (x % 2) 1) (or_shr a b f) ∙ last_digit (a / 2 ^ f) (b / 2 ^ f)

-- the digit of one field
above_digit : (f d : ℕ) → 2 ^ (f + suc d) / 2 ^ f % 2 ≡ 0
above_digit f d =
    let e : 2 ^ (f + suc d) / 2 ^ f ≡ 2 ^ d * 2 = ap (λ x. x / 2 ^ f) (pow-add 2 f (suc d) ∙ mul_comm (2 ^ f) (2 ^ suc d)) ∙ mul-div_cancel (2 ^ suc d) (pow_pos f) ∙ pow-suc 2 d in
    ap (λ x. x % 2) e ∙ omega arith

own_digit : (f : ℕ) → 2 ^ f / 2 ^ f % 2 ≡ 1
own_digit f = ap (λ x. x % 2) (ap (λ x. x / 2 ^ f) (omega arith) ∙ mul-div_cancel 1 (pow_pos f))

only_has : (f l : ℕ) → has_field f (2 ^ l) ≡ eqb l f
only_has f l = elim (ℕ_discrete l f) [
  | yes e ↦ rw (e, own_digit f, eq-eqb f f refl)
  | no n ↦ elim (dec_lt f l) [
    | yes h ↦
        let e : f + suc (l - f - 1) ≡ l = omega arith in
        let z : 2 ^ l / 2 ^ f % 2 ≡ 0 = ap (λ x. 2 ^ x / 2 ^ f % 2) (sym e) ∙ above_digit f (l - f - 1) in
        rw (z, ne_eqb l f n)
    | no h ↦
        let z : 2 ^ l / 2 ^ f % 2 ≡ 0 = ap (λ x. x % 2) (div-eq_of_lt (pow-lt {i = l} {j = f} (omega arith))) in
        rw (z, ne_eqb l f n)
  ]
]

-- ---- the sets of the pass up
module _ (t : List ℕ) where
  sets_length : (k : ℕ) → length (field_sets t k) ≡ most_handles
  unfolding field_sets
  sets_length zero = length-replicate {A = ℕ} most_handles 0
  sets_length (suc k) = simp length-set (sets_length k)

  -- the digit of a field at a handle is the field's flag there
  pub sets_are_flags : (f k h : ℕ) → k ≤ most_table_entries → has_field f (get_or (field_sets t k) h 0) ≡ get_or (named table_limits f t k) h false
  unfolding field_sets named fields_at
  sets_are_flags f zero h l = rw (all_alike {A = ℕ} 0 most_handles h, all_alike false most_handles h) (ap (λ x. eqb (x % 2) 1) (zero-div (2 ^ f)))
  sets_are_flags f (suc k) h l = elim (ℕ_discrete h (k + leaves)) [
    | no n ↦ rw (get_or-set_other (field_sets t k) (k + leaves) h _ 0 n, get_or-set_other (named table_limits f t k) (k + leaves) h _ false n) (sets_are_flags f k h (omega arith))
    | yes e ↦
        let y = (entry t k).yes in
        let n = (entry t k).no in
        let g = asks (entry t k) in
        rw (
          e,
          get_or-set_same (field_sets t k) (k + leaves) _ 0 (omega (arith, sets_length k)),
          get_or-set_same (named table_limits f t k) (k + leaves) _ false (omega (arith, flags_length table_limits f t k)),
        )
        (or_has f (both_fields g) (bit_or (get_or (field_sets t k) y 0) (get_or (field_sets t k) n 0))
        ∙ ap₂ (λ a b. a || b)
        (or_has f (2 ^ g.left.field.0) (2 ^ g.right.field.0) ∙ ap₂ (λ a b. a || b) (only_has f g.left.field.0) (only_has f g.right.field.0))
        (or_has f (get_or (field_sets t k) y 0) (get_or (field_sets t k) n 0) ∙ ap₂ (λ a b. a || b) (sets_are_flags f k y (omega arith)) (sets_are_flags f k n (omega arith))))
  ]
