-- The least sheet, field by field: the record and the counts once the fields below one are fixed.
use Prim.Native.Nat.{ℕ, zero, suc, ◌+◌, ◌≤◌, ◌<◌}
use mathlib.Core.Path.{◌≡◌, refl, sym, ap, subst, ◌∙◌}
use mathlib.Core.List.{List, [], ◌∷◌}
use native.Mathlib.Omega.{arith}
use native.Mathlib.Decide.{ℕ_discrete}
use lib.ListN.{length, get_or, set, length-set}
use lib.Seq.{get_or-set_same, get_or-set_other}
use Rattle.facts.specs.declared.record.Facts.{Facts}
use Rattle.facts.specs.declared.fact.Fact.{Fact}
use Rattle.facts.specs.Least.{counts, least_count, fixed, least_sheet}
use Rattle.facts.specs.Needs.{CanFix, FixedAt, HasLeast}
use Rattle.facts.specs.Record.{state, last_field, field_places, most_noes, Small, AllSmall, Holds, LeastCounts}
use Rattle.terms.specs.Limits.{most_count}
use Rattle.facts.specs.State.{ZeroKept, State, at, free, yes_to}
use Rattle.facts.proofs.HeldFacts.{small_more, holds_within, worked_yes, least_counts_bound}
use Rattle.facts.proofs.LeastSheet.{count_fits, least_count_can, least_count_le, fixed_zero, fixed_at, fixed_down, least_sheet_fits}
use Rattle.facts.proofs.StateFree.{state_of_zero}

-- ---- one field
pub counts_small : {x count : ℕ} → x ≤ last_field → count ≤ most_count → Small most_count (counts x count)
counts_small h l = record { left_in = h; right_in = omega arith; left_steps = omega arith; right_steps = l }

holds_more : {most_no m n : ℕ} {f : Facts} → m ≤ n → Holds most_no m f → Holds most_no n f
holds_more {m = m} {n = n} l h = record { facts = h.facts; small = all_more h.facts h.small; is = h.is; fitted = h.fitted; few = h.few }
  where
    all_more : (xs : List Fact) → AllSmall m xs → AllSmall n xs
    all_more [] a = tt
    all_more (x ∷ xs) a = (small_more l a.0, all_more xs a.1)

-- ---- all fields
-- the record and the counts when the fields below i are fixed
pub record FixedBelow (start : Facts) (i : ℕ) (f : Facts) (found : List ℕ) : Type 0 where
  pub done : ℕ
  pub i_is : i ≡ suc done
  pub holds : Holds most_noes most_count f
  pub is : state f ≡ fixed done (state start)
  pub size : length found ≡ field_places
  pub count_at : (j : ℕ) → j < done → get_or found (suc j) 0 ≡ least_count (fixed j (state start)) (suc j)

module _ {start : Facts} {n : ℕ} (has : HasLeast start n) where
  start_zero : ZeroKept (state start).classes
  start_zero = subst (λ (s : State). ZeroKept s.classes) (sym has.holds.is) (state_of_zero has.holds.facts)

  pub none_fixed : {found : List ℕ} → length found ≡ field_places → FixedBelow start 1 start found
  unfolding fixed
  none_fixed l = record {
    done = 0;
    i_is = refl;
    holds = holds_more (omega (arith, has.few_steps)) has.holds;
    is = refl;
    size = l;
    count_at = λ j h. absurd (omega arith);
  }

  small_counts : (m : ℕ) → m < last_field → least_count (fixed m (state start)) (suc m) ≤ most_count
  small_counts m h =
      let held = has.holds in
      rw held.is (omega (arith, has.few_steps, least_counts_bound has.most held.facts held.small (sym (ap free held.is) ∙ held.fitted) m h))

  module _ {i : ℕ} {f : Facts} {found : List ℕ} (b : FixedBelow start i f found) (l : i ≤ n) where
    zero_kept : ZeroKept (state f).classes
    zero_kept = subst (λ (s : State). ZeroKept s.classes) (sym b.is) (fixed_zero b.done (state start) start_zero)

    pub can_fix : CanFix f i
    can_fix =
        let can = least_count_can (state f) zero_kept b.holds.fitted i in
        record {
          on_field = omega (arith, has.few_fields);
          within = holds_within b.holds (omega arith) (omega arith);
          fitted = b.holds.fitted;
          small_count = rw (b.is, b.i_is) (small_counts b.done (omega (arith, b.i_is, has.few_fields)));
          from_offset = let w = count_fits (state f) zero_kept i (least_count (state f) i) can in omega (arith, w.1.classed.at_field i, w.2);
          can = can;
          least_can = λ y t. let w = count_fits (state f) zero_kept i y t in omega (arith, least_count_le (state f) zero_kept b.holds.fitted i w.0 w.1, w.2);
        }

    pub fixed_next : {count : ℕ} {g : Facts} → FixedAt f i count g → FixedBelow start (i + 1) g (set found i count)
    unfolding fixed
    fixed_next {count} {g} a = record {
      done = suc b.done;
      i_is = omega (arith, b.i_is);
      holds = worked_yes b.holds (counts i (least_count (state f) i)) (fixed_small) can_fix.can a.state_is;
      is = a.state_is ∙ ap (λ s. yes_to s (counts i (least_count s i))) b.is ∙ ap (λ j. yes_to (fixed b.done (state start)) (counts j (least_count (fixed b.done (state start)) j))) b.i_is;
      size = simp length-set b.size;
      count_at = λ j h. go j h (ℕ_discrete j b.done);
    }
      where
        fixed_small : Small most_count (counts i (least_count (state f) i))
        fixed_small = counts_small (omega (arith, has.few_fields)) can_fix.small_count

        go : (j : ℕ) → j < suc b.done → Dec (j ≡ b.done) → get_or (set found i count) (suc j) 0 ≡ least_count (fixed j (state start)) (suc j)
        go j h (yes e) =
            let at : suc j ≡ i = omega (arith, b.i_is) in
            rw (at, get_or-set_same found i count 0 (omega (arith, b.size, has.few_fields)), e) (a.count_is ∙ ap (λ s. least_count s i) b.is)
        go j h (no d) = get_or-set_other found i (suc j) count 0 (λ e. d (omega (arith, b.i_is))) ∙ b.count_at j (omega arith)

  pub all_fixed : {i : ℕ} {f : Facts} {found : List ℕ} → FixedBelow start i f found → n < i → i ≤ n + 1 → LeastCounts start n (record { counts = found })
  all_fixed {i} {f} {found} b h l = record { count_at = go }
    where
      go : (j : ℕ) → 1 ≤ j → j ≤ n → get_or found j 0 ≡ at (least_sheet n (state start)) j
      go zero a c = absurd (omega arith)
      go (suc j) a c =
          b.count_at j (omega (arith, b.i_is))
          ∙ sym (fixed_at j (state start) (least_sheet n (state start))
          (fixed_down n (suc j) (state start) (least_sheet n (state start)) c (least_sheet_fits n (state start) start_zero has.holds.fitted)))
