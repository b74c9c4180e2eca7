-- The index over a plain function f from numbers to buckets: it starts empty, a number is put into it, and a chain is walked. The check finds the proofs
-- that cited `chains_put` and `walk_step` by itself now; those two, which docs/CHANGES.md names, and what they go by stay as they are.
use Prim.Native.Nat.{ℕ, ◌+◌, ◌≤◌, ◌<◌}
use mathlib.Core.Path.{◌≡◌, refl, ◌∙◌, ap, sym}
use mathlib.Core.Bool.{Bool, true, false, false≢true}
use mathlib.Core.List.{List}
use native.Mathlib.Omega.{arith}
use lib.ListN.{get_or, set, replicate, length-set, length-replicate, get_or-replicate}
use lib.Seq.{get_or-set_same, get_or-set_other}
use Rattle.index.specs.Needs.{Top, Chains}
use Rattle.terms.proofs.Cases.{by_eq}

module _ (f : ℕ → ℕ) where
  top_none : (b : ℕ) → Top f b 0 0
  top_none b = record { low = omega arith; here = λ i e. absurd (omega arith); all = λ j h e. absurd (omega arith) }

  top_mine : (b k : ℕ) → f k ≡ b → Top f b (k + 1) (k + 1)
  top_mine b k e =
      record {
        low = omega arith;
        here = λ i d. ap f (omega arith) ∙ e;
        all = λ j h d. h;
      }

  top_other : (b k p : ℕ) → (f k ≡ b → ⊥) → Top f b k p → Top f b (k + 1) p
  top_other b k p differs t =
      record {
        low = let l = t.low in omega arith;
        here = t.here;
        all = λ j h d. by_eq (λ _. j < p) j k (λ e. absurd (differs (ap f (sym e) ∙ d))) (λ n. t.all j (omega arith) d);
      }

  module _ (n m : ℕ) where
    pub chains_none : Chains n m f 0 (replicate n 0) (replicate m 0)
    chains_none =
        record {
          buckets = length-replicate n 0;
          room = length-replicate m 0;
          last = λ b h. rw (get_or-replicate {A = ℕ} n b 0 0 h) (top_none b);
          next = λ i h. absurd (omega arith);
        }

    module _ (k : ℕ) (lasts links : List ℕ) (c : Chains n m f k lasts links) where
      last_put : f k < n → (b : ℕ) → b < n → Top f b (k + 1) (get_or (set lasts (f k) (k + 1)) b 0)
      last_put l b h =
          let e = c.buckets in
          by_eq (λ _. Top f b (k + 1) (get_or (set lasts (f k) (k + 1)) b 0)) (f k) b
          (λ e. rw (← e, get_or-set_same lasts (f k) (k + 1) 0 (omega arith)) (top_mine (f k) k refl))
          (λ d. rw (get_or-set_other lasts (f k) b (k + 1) 0 (λ e. d (sym e))) (top_other b k _ d (c.last b h)))

      next_put : k < m → f k < n → (i : ℕ) → i < k + 1 → Top f (f i) i (get_or (set links k (get_or lasts (f k) 0)) i 0)
      next_put r l i h =
          let e = c.room in
          by_eq (λ _. Top f (f i) i (get_or (set links k (get_or lasts (f k) 0)) i 0)) i k
          (λ e. rw (e, get_or-set_same links k (get_or lasts (f k) 0) 0 (omega arith)) (c.last (f k) l))
          (λ d. rw (get_or-set_other links k i (get_or lasts (f k) 0) 0 d) (c.next i (omega arith)))

      pub chains_put : k < m → f k < n → Chains n m f (k + 1) (set lasts (f k) (k + 1)) (set links k (get_or lasts (f k) 0))
      chains_put r l =
          record {
            buckets = length-set lasts (f k) (k + 1) ∙ c.buckets;
            room = length-set links k (get_or lasts (f k) 0) ∙ c.room;
            last = last_put l;
            next = next_put r l;
          }

-- a walk along the chain of bucket b, in search of the numbers below k that pass a test: those that are left are below p
pub record Walk (f : ℕ → ℕ) (test : ℕ → Bool) (b k p : ℕ) : Type 0 where
  pub low : p ≤ k
  pub here : (i : ℕ) → p ≡ i + 1 → f i ≡ b
  pub left : (j : ℕ) → j < k → test j ≡ true → j < p

module _ (f : ℕ → ℕ) (test : ℕ → Bool) (b k : ℕ) (lies : (j : ℕ) → test j ≡ true → f j ≡ b) where
  pub walk_step : {p p' : ℕ} → Walk f test b k p → (i : ℕ) → p ≡ i + 1 → test i ≡ false → Top f (f i) i p' → Walk f test b k p'
  walk_step {p} {p'} w i e fails t =
      let l = w.low in
      let m = t.low in
      record {
        low = omega arith;
        here = λ j d. t.here j d ∙ w.here i e;
        left = λ j h q.
            let s = w.left j h q in
            by_eq (λ _. j < p') j i
            (λ d. absurd (false≢true (sym fails ∙ ap test (sym d) ∙ q)))
            (λ d. t.all j (omega arith) (lies j q ∙ sym (w.here i e)));
      }
