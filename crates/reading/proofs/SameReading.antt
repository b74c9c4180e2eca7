-- A reading depends on the meaning alone: two answers that are exact for meanings that agree under every filling have the same result, and an accepted answer is
-- given by its result.
use Prim.Native.Nat.{ℕ, zero, suc}
use mathlib.Core.Path.{◌≡◌, refl, sym, ap, ◌∙◌}
use mathlib.Core.Logic.{◌≢◌}
use mathlib.Core.Bool.{Bool, true, false}
use mathlib.Core.List.{List}
use native.Mathlib.Omega.{arith}
use native.Mathlib.Decide.{ℕ_discrete}
use borrow.Author.Tests.{ne_eqb}
use lib.ListN.{length}
use Rattle.std.specs.Prelude.{Ok, Err}
use Rattle.reading.specs.declared.answer.Reading.TheVariants.{Fails, Satisfies, Depends}
use Rattle.reading.specs.declared.answer.ReadFault.TheVariants.{NotSound, NoHandle, WrongLength}
use Rattle.reading.specs.Blanks.{Fills}
use Rattle.reading.specs.Read.{Read, read_number, read_result, read_sheet}
use Rattle.reading.specs.ReadExactly.{EveryFilling, SomeFilling, ReadExactly}
use Rattle.store.specs.Layout.{field_count, is_handle}
use Rattle.store.specs.Meaning.{meaning}
use Rattle.store.specs.Sound.{sound}
use Rattle.terms.specs.declared.limits.Limits.{Limits}
use Rattle.terms.specs.Meaning.{Valuation}
use Rattle.reading.proofs.ReadMeans.{read_exactly}

-- the accepted answer with a result
answer_with : ℕ → Read
answer_with zero = Ok Fails
answer_with (suc zero) = Ok Satisfies
answer_with (suc (suc k)) = Ok Depends

given_by_result : (r : Read) → read_number r ≡ 0 → r ≡ answer_with (read_result r)
unfolding answer_with
given_by_result (Ok Fails) e = refl
given_by_result (Ok Satisfies) e = refl
given_by_result (Ok Depends) e = refl
given_by_result (Err NotSound) e = absurd (omega arith)
given_by_result (Err NoHandle) e = absurd (omega arith)
given_by_result (Err WrongLength) e = absurd (omega arith)

-- ---- one answer is exact
module _ (sheet : List ℕ) (means : Valuation → Bool) {r q : Read} (x : ReadExactly sheet means r) (y : ReadExactly sheet means q) where
  same_result : read_result r ≡ read_result q
  same_result = elim (ℕ_discrete (read_result r) 0) [
    | yes e ↦ e ∙ sym (y.zero.1 (x.zero.0 e))
    | no n ↦ elim (ℕ_discrete (read_result r) 1) [
      | yes e ↦ e ∙ sym (y.one.1 (x.one.0 e))
      | no m ↦ let e : read_result r ≡ 2 = omega (arith, x.one_of_three) in e ∙ sym (y.two.1 (x.two.0 e))
    ]
  ]

  pub exactly_only : r ≡ q
  exactly_only = given_by_result r x.accepted ∙ ap answer_with same_result ∙ sym (given_by_result q y.accepted)

-- ---- alike under every filling
every_alike : (sheet : List ℕ) (means others : Valuation → Bool) → ((v : Valuation) → Fills sheet v → means v ≡ others v) → (b : Bool)
    → EveryFilling sheet means b → EveryFilling sheet others b
every_alike sheet means others alike b every v k = sym (alike v k) ∙ every v k

some_alike : (sheet : List ℕ) (means others : Valuation → Bool) → ((v : Valuation) → Fills sheet v → means v ≡ others v) → (b : Bool)
    → SomeFilling sheet means b → SomeFilling sheet others b
some_alike sheet means others alike b some = (some.0, some.1, sym (alike some.0 some.1) ∙ some.2)

-- what is exact for a meaning is exact for one that agrees with it under every filling
pub exactly_alike : (sheet : List ℕ) (means others : Valuation → Bool) → ((v : Valuation) → Fills sheet v → means v ≡ others v) → {r : Read}
    → ReadExactly sheet means r → ReadExactly sheet others r
exactly_alike sheet means others alike x =
    let every = every_alike sheet means others alike in
    let some = some_alike sheet means others alike in
    let back : (v : Valuation) → Fills sheet v → others v ≡ means v = λ v k. sym (alike v k) in
    let every_back = every_alike sheet others means back in
    let some_back = some_alike sheet others means back in
    record {
      accepted = x.accepted;
      one_of_three = x.one_of_three;
      one = (λ e. every true (x.one.0 e), λ h. x.one.1 (every_back true h));
      zero = (λ e. every false (x.zero.0 e), λ h. x.zero.1 (every_back false h));
      two = (λ e. (some true (x.two.0 e).0, some false (x.two.0 e).1), λ h. x.two.1 (some_back true h.0, some_back false h.1));
    }

-- ---- the operation
read_wrong_length : (limits : Limits) (s : List ℕ) → sound limits s ≡ true → (handle : ℕ) → is_handle s handle ≡ true → (sheet : List ℕ) → length sheet ≢ field_count s
    → read_sheet limits s handle sheet ≡ Err WrongLength
unfolding read_sheet
read_wrong_length limits s is handle u sheet n = rw (is, u, ne_eqb (length sheet) (field_count s) n) refl

-- Two handles, in any sound stores with the same number of fields, that mean the same under every choice of counts have the same reading of every sheet.
pub same_reading : (limits others : Limits) (s t : List ℕ) → sound limits s ≡ true → sound others t ≡ true → field_count s ≡ field_count t
    → (a b : ℕ) → is_handle s a ≡ true → is_handle t b ≡ true → ((v : Valuation) → meaning s a v ≡ meaning t b v)
    → (sheet : List ℕ) → read_sheet limits s a sheet ≡ read_sheet others t b sheet
same_reading limits others s t is_s is_t fields a b has_a has_b alike sheet = elim (ℕ_discrete (length sheet) (field_count s)) [
  | yes l ↦ exactly_only sheet (meaning t b)
      (exactly_alike sheet (meaning s a) (meaning t b) (λ v _. alike v) (read_exactly limits s is_s a has_a sheet l))
      (read_exactly others t is_t b has_b sheet (l ∙ fields))
  | no n ↦ read_wrong_length limits s is_s a has_a sheet n ∙ sym (read_wrong_length others t is_t b has_b sheet (λ e. n (e ∙ sym fields)))
]
