-- A test that code makes of each number of a range is the test of every number below the range's end: both go through the same numbers, the one from the front
-- and the other from the back.
use Prim.Native.Nat.{ℕ, zero, suc, ◌+◌}
use mathlib.Core.Path.{◌≡◌, refl, ◌∙◌, ap}
use mathlib.Core.Bool.{Bool, true, false, ◌&&◌}
use mathlib.Core.List.{List, [], ◌∷◌, ◌++◌}
use native.Mathlib.Omega.{arith}
use Rattle.std.specs.List.{list_all, range_with_len}
use Rattle.std.proofs.iter.Yields.{nat_range_steps}
use Rattle.std.proofs.lemmas.Iterator.{YieldsList-from_range}
use Rattle.std.proofs.lemmas.Iterator.Search.{all_from_yields_List}
use Rattle.std.specs.Fn.{Called}
use Rattle.std.specs.Iterator.{YieldsThen}
use Rattle.std.specs.List.{FoldsTo}
use Rattle.std.specs.Option.{MatchOption}
use Rattle.std.specs.Prelude.{Option}
use Rattle.std.specs.declared.ops.Range.{Range}
use denote.Param.Members.{Mut}
use Rattle.std.proofs.lemmas.List.Folds.{list_all-append}
use Rattle.store.specs.Sound.{all_below}

range_more : (a n : ℕ) → range_with_len a (suc n) ≡ range_with_len a n ++ (a + n) ∷ []
range_more a zero = let e : a + 0 ≡ a = omega arith in rw e
range_more a (suc n) =
    let e : a + 1 + n ≡ a + suc n = omega arith in
    ap (λ (xs : List ℕ). a ∷ xs) (range_more (a + 1) n ∙ ap (λ (k : ℕ). range_with_len (a + 1) n ++ k ∷ []) e)

last_alone : (b : Bool) → (b && true) ≡ b
last_alone true = refl
last_alone false = refl

module _ (p : ℕ → Bool) where
  pub list_all-range : (n : ℕ) → list_all p (range_with_len 0 n) ≡ all_below n p
  unfolding all_below
  list_all-range zero = refl
  list_all-range (suc n) =
      let e : 0 + n ≡ n = omega arith in
      ap (list_all p) (range_more 0 n) ∙ list_all-append p (range_with_len 0 n) ((0 + n) ∷ [])
      ∙ simp (last_alone, list_all-range n, e)

-- What `(0..n).all(..)` answers, whose closure answers as a test.
pub all_tested : {F : Type 0} {g : Mut F (ℕ × Unit {0}) Bool} {s : Range ℕ} (p : ℕ → Bool) (n : ℕ) {u : Range ℕ} {f : F} {r : Bool}
    → (xs : List ℕ) × (o : Option ℕ) × (j : F) × YieldsThen nat_range_steps s xs o u × FoldsTo (λ p x q. Called g p (x, tt) true q) f xs j
    × MatchOption o (r ≡ true) (λ x. (r ≡ false) × ((h : F) × Called g j (x, tt) false h))
    → s ≡ record { start = 0; end = n } → ((x : ℕ) (b : Bool) (q : F) → Called g f (x, tt) b q → (q ≡ f) × (b ≡ p x)) → r ≡ all_below n p
all_tested p n {u} {f} {r} ran e each = all_from_yields_List p u f r ran (YieldsList-from_range 0 n n e (omega arith)) each ∙ list_all-range p n
