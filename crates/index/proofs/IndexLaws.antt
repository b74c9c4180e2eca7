-- The index over entries that keep the laws of `Indexed`, with a law for each way through the code: the first entry that is equal is the only one, and it
-- lies in its bucket's chain.
use Prim.Native.Nat.{ℕ, ◌+◌, ◌-◌, ◌≤◌, ◌<◌}
use mathlib.Core.Path.{◌≡◌, refl, ◌∙◌, ap, sym, subst}
use mathlib.Core.Bool.{Bool, true, false, false≢true, not}
use mathlib.Core.List.{List}
use native.Mathlib.Omega.{arith}
use borrow.Author.Tests.{lt-ltb, le-ltb}
use lib.ListN.{replicate}
use Rattle.std.proofs.Common.{Option, Some, None, cond}
use Rattle.std.specs.Option.{is_some}
use Rattle.index.specs.declared.chains.Index.{Index}
use Rattle.index.specs.Entries.{capacity, buckets, none_equal, EntryLaws}
use Rattle.index.specs.Needs.{EntriesFit, Holds, Empty, Searchable, found}
use Rattle.index.proofs.ChainLaws.{chains_none, Walk}
use Rattle.store.specs.Entries.{first}
use Rattle.store.specs.Needs.{EntryFrom}
use Rattle.store.specs.Sound.{all_below}
use Rattle.store.proofs.EntryFound.{first_none, first_at, first_found, first_fails}
use Rattle.store.proofs.Tests.{all_below_none, all_below_from, all_below_says, all_below_more, all_below_fails}
use Rattle.terms.proofs.Cases.{by_test, by_lt}

-- the i-th entry of a store lies within the words
pub entry_in : (s : List ℕ) {start k : ℕ} (i : ℕ) → i < k → EntriesFit s start k → EntryFrom s start i
entry_in s i h f = record { begin = f.begin; entry_in = omega (arith, f.begin, f.within) }

-- ---- an entry goes into the index
abbrev empty : Index
empty = record { count = 0; lasts = replicate buckets 0; links = replicate capacity 0 }

pub empty_index : Empty empty
empty_index = record { none = refl; holds = λ f. record { chains = chains_none f buckets capacity } }

-- ---- what a search of the first k entries answers
module _ {A : Type 0} (entry : ℕ → A) (same : A → A → Bool) (e : A) (k : ℕ) where
  abbrev is_e : ℕ → Bool
  is_e j = same (entry j) e

  pub found_at : (i : ℕ) → i < k → is_e i ≡ true → ((j : ℕ) → j < i → is_e j ≡ false) → Some i ≡ found entry same e k
  found_at i h t none =
      let d : first is_e k 0 ≡ i = first_at is_e k 0 i (omega arith) (omega arith) t (λ j g l. none j l) in
      rw (d, lt-ltb i k h)

  pub found_none : ((j : ℕ) → j < k → is_e j ≡ false) → None ≡ found entry same e k
  found_none none =
      let d : first is_e k 0 ≡ k = first_none is_e k 0 (λ j g l. none j (omega arith)) ∙ omega arith in
      rw (d, le-ltb k k (omega arith))

  -- an answer that is a number says that the number's entry is e, and another one that none is
  pub some_is_e : is_some (found entry same e k) ≡ true → (i : ℕ) × (i < k) × (is_e i ≡ true)
  some_is_e t =
      by_lt (λ b. is_some (cond b (Some (first is_e k 0)) None) ≡ true → (i : ℕ) × (i < k) × (is_e i ≡ true)) (first is_e k 0) k
      (λ l _. (first is_e k 0, l, first_found is_e k 0 (omega arith)))
      (λ l f. absurd (false≢true f))
      t

  pub none_is_e : is_some (found entry same e k) ≡ false → (j : ℕ) → j < k → is_e j ≡ false
  none_is_e n =
      by_lt (λ b. is_some (cond b (Some (first is_e k 0)) None) ≡ false → (j : ℕ) → j < k → is_e j ≡ false) (first is_e k 0) k
      (λ l f. absurd (false≢true (sym f)))
      (λ l _ j h. first_fails is_e k 0 (omega arith) j (omega arith) (omega arith))
      n

-- the search for e among the first k entries: those that are e are below p, and the entry of p lies in the bucket of e
abbrev pub Left : {A : Type 0} → (ℕ → A) → (A → ℕ) → (A → A → Bool) → ℕ → A → ℕ → Type 0
Left entry bucket same k e p = Walk (λ i. bucket (entry i)) (λ i. same (entry i) e) (bucket e) k p

module _ {A : Type 0} {fits : List ℕ → ℕ → ℕ → Type 0} {entry : List ℕ → ℕ → A} {differ : List ℕ → ℕ → Bool} {same eq : A → A → Bool} {bucket : A → ℕ}
    (laws : EntryLaws fits entry differ same eq) (s : List ℕ) (start : ℕ) where
  module _ {x : Index} (r : Searchable (fits s start) (entry s) bucket same x) (e : A) where
    -- no entry before one that is e is e, since no two of the entries are equal
    only_one : (i : ℕ) → i < x.count → same (entry s i) e ≡ true → (j : ℕ) → j < i → same (entry s j) e ≡ false
    only_one i h a j l =
        let unlike : ℕ → ℕ → Bool = λ n m. not (same (entry s m) (entry s n)) in
        let u : unlike i j ≡ true = all_below_says (unlike i) i (all_below_says (λ n. all_below n (unlike n)) x.count r.differ i h) j l in
        by_test (λ t. t ≡ false) (same (entry s j) e)
        (λ b. absurd (false≢true (rw (laws.same_says (entry s i) e a, b) at u)))
        (λ b. refl)

    module _ {p : ℕ} (l : Left (entry s) bucket same x.count e p) (h : 0 < p) where
      module _ {d : A} {t : Bool} (ed : d ≡ entry s (p - 1)) (et : t ≡ eq d e) where
        tested : t ≡ same (entry s (p - 1)) e
        tested = et ∙ laws.eq_is d e ∙ ap (λ (y : A). same y e) ed

        pub left_found : t ≡ true → Some (p - 1) ≡ found (entry s) same e x.count
        left_found b =
            let low = l.low in
            found_at (entry s) same e x.count (p - 1) (omega arith) (sym tested ∙ b) (only_one (p - 1) (omega arith) (sym tested ∙ b))

    pub left_none : {p : ℕ} → Left (entry s) bucket same x.count e p → p ≤ 0 → None ≡ found (entry s) same e x.count
    left_none {p} l h =
        found_none (entry s) same e x.count (λ j g. by_test (λ t. t ≡ false) (same (entry s j) e)
        (λ t. let low = l.left j g t in absurd (omega arith))
        (λ t. refl))

-- ---- the entries, one after the other: those before the i-th are in the index, and no two of them are equal
pub record Loading {A : Type 0} (fits : ℕ → Type 0) (entry : ℕ → A) (bucket : A → ℕ) (same : A → A → Bool) (i : ℕ) (x : Index) : Type 0 where
  pub counted : x.count ≡ i
  pub ready : Searchable fits entry bucket same x

module _ {A : Type 0} {fits : List ℕ → ℕ → ℕ → Type 0} {entry : List ℕ → ℕ → A} {differ : List ℕ → ℕ → Bool} {same eq : A → A → Bool} {bucket : A → ℕ}
    (laws : EntryLaws fits entry differ same eq) (s : List ℕ) (start : ℕ) {entries : ℕ} (f : fits s start entries) where
  pub loading_begins : {x : Index} → Empty x → Loading (fits s start) (entry s) bucket same 0 x
  loading_begins {x} m =
      record {
        counted = m.none;
        ready = record {
          fit = laws.less s start x.count entries (omega (arith, m.none)) f;
          differ = rw (m.none) (all_below_none (λ i. all_below i (λ j. not (same (entry s j) (entry s i)))));
          index = m.holds (λ i. bucket (entry s i));
        };
      }

  module _ {i : ℕ} {x : Index} (l : Loading (fits s start) (entry s) bucket same i x) (h : i < entries) {e : A} (ee : e ≡ entry s i) where
    of_entry : {d : A} {b : Bool} → same d e ≡ b → same d (entry s i) ≡ b
    of_entry {d} {b} t = subst (λ (y : A). same d y ≡ b) ee t

    pub loading_more : {o : Option ℕ} {x' : Index} → o ≡ found (entry s) same e x.count → false ≡ is_some o → x'.count ≡ x.count + 1
        → ((g : ℕ → ℕ) → g x.count ≡ bucket e → Holds g x → Holds g x') → Loading (fits s start) (entry s) bucket same (i + 1) x'
    loading_more {o} {x'} eo n c put =
        let counted : x'.count ≡ i + 1 = c ∙ ap (λ k. k + 1) l.counted in
        let none = none_is_e (entry s) same e x.count (sym (n ∙ ap is_some eo)) in
        record {
          counted = counted;
          ready = record {
            fit = laws.less s start x'.count entries (omega arith) f;
            differ = rw counted (all_below_more (λ n. all_below n (λ j. not (same (entry s j) (entry s n)))) (subst (λ k. none_equal same (entry s) k ≡ true) l.counted l.ready.differ)
                (all_below_from (λ j. not (same (entry s j) (entry s i))) i (λ j g. ap not (of_entry (none j (omega (arith, l.counted)))))));
            index = put (λ n. bucket (entry s n)) (ap (λ k. bucket (entry s k)) l.counted ∙ ap bucket (sym ee)) l.ready.index;
          };
        }

    pub equal_found : {o : Option ℕ} → o ≡ found (entry s) same e x.count → true ≡ is_some o → false ≡ differ s entries
    equal_found eo t =
        let some = some_is_e (entry s) same e x.count (sym (t ∙ ap is_some eo)) in
        sym (laws.differ_is s entries
        ∙ all_below_fails (λ n. all_below n (λ j. not (same (entry s j) (entry s n)))) entries i h
        (all_below_fails (λ j. not (same (entry s j) (entry s i))) i some.0 (omega (arith, some.1, l.counted)) (ap not (of_entry some.2))))
