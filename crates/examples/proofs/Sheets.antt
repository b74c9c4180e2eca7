-- A sheet as a list: its counts one by one, and the part of an array that holds them.
use Prim.Native.Nat.{ℕ, zero, suc, ◌+◌, ◌<◌}
use mathlib.Core.Path.{◌≡◌, refl, sym, ap, ◌∙◌}
use mathlib.Core.List.{List}
use native.Mathlib.Omega.{arith}
use lib.ListN.{length, get_or, take, drop, length-take, length-drop}
use lib.Seq.{ext_get_or}
use Rattle.std.proofs.lemmas.List.{get_or-take, get_or-drop}
use Rattle.examples.specs.Best.{counts_from}

pub counts_length : (n i : ℕ) (c : ℕ → ℕ) → length (counts_from n i c) ≡ n
unfolding counts_from
counts_length zero i c = refl
counts_length (suc n) i c = ap suc (counts_length n (i + 1) c)

pub counts_at : (n i j : ℕ) (c : ℕ → ℕ) → j < n → get_or (counts_from n i c) j 0 ≡ c (i + j)
unfolding counts_from
counts_at zero i j c h = absurd (omega arith)
counts_at (suc n) i zero c h = let e : i + 0 ≡ i = omega arith in rw e refl
counts_at (suc n) i (suc j) c h = let e : i + 1 + j ≡ i + suc j = omega arith in counts_at n (i + 1) j c (omega arith) ∙ ap c e

-- the n counts from the first field on, in a list with a place for each field and for field 0
pub counts_part : (n : ℕ) (xs : List ℕ) → n < length xs → take n (drop 1 xs) ≡ counts_from n 1 (λ i. get_or xs i 0)
counts_part n xs h =
    let size : length (take n (drop 1 xs)) ≡ n = omega (arith, length-take n (drop 1 xs), length-drop 1 xs) in
    ext_get_or 0 (take n (drop 1 xs)) (counts_from n 1 (λ i. get_or xs i 0)) (size ∙ sym (counts_length n 1 (λ i. get_or xs i 0)))
    (λ j l. get_or-take n (drop 1 xs) j 0 (omega arith) ∙ get_or-drop 1 xs j 0 ∙ sym (counts_at n 1 j (λ i. get_or xs i 0) (omega arith)))
