-- A sheet written place by place: the places passed have the counts of the fields from 1 on, and in the end all have.
use Prim.Native.Nat.{ℕ, ◌+◌, ◌≤◌, ◌<◌}
use mathlib.Core.Path.{◌≡◌, sym, ap, ◌∙◌}
use mathlib.Core.List.{List}
use native.Mathlib.Omega.{arith}
use lib.ListN.{length, get_or}
use lib.Seq.{ext_get_or}
use Rattle.examples.specs.Best.{counts_from}
use Rattle.examples.proofs.Sheets.{counts_length, counts_at}

-- the first i places of the words are written
pub record WrittenTo (c : ℕ → ℕ) (before : List ℕ) (i : ℕ) (out : List ℕ) : Type 0 where
  pub up_to : i ≤ length before
  pub size : length out ≡ length before
  pub count_at : (j : ℕ) → j < i → get_or out j 0 ≡ c (j + 1)

pub written_all : {c : ℕ → ℕ} {before : List ℕ} {i : ℕ} {out : List ℕ} → WrittenTo c before i out → length out ≤ i → out ≡ counts_from (length before) 1 c
written_all {c} {before} {i} {out} w h = ext_get_or 0 out (counts_from (length before) 1 c) (w.size ∙ sym (counts_length (length before) 1 c))
    (λ j l. w.count_at j (omega arith) ∙ (let e : j + 1 ≡ 1 + j = omega arith in ap c e) ∙ sym (counts_at (length before) 1 j c (omega (arith, w.size))))
