-- While the list is written behind the heading, each turn puts the next word in its place.
use Prim.Native.Nat.{ℕ, ◌+◌, ◌≤◌, ◌<◌}
use mathlib.Core.Path.{◌≡◌, ap, ◌∙◌, sym}
use mathlib.Core.List.{List, ◌++◌}
use native.Mathlib.Numerals.{add-one}
use native.Mathlib.Omega.{arith}
use lib.ListN.{length, get_or, take, drop, set}
use lib.Seq.{paste, paste-zero, paste-suc, take-length}
use Rattle.store.specs.Layout.{heading_length}

module _ (s list : List ℕ) where
  pub list_none : s ≡ paste s heading_length list 0
  list_none = paste-zero s heading_length list

  module _ {e : List ℕ} {i : ℕ} (p : e ≡ paste s heading_length list i) where
    pub list_more : i < length list → heading_length + length list ≤ length s
        → set e (heading_length + i) (get_or list i 0) ≡ paste s heading_length list (i + 1)
    list_more h k =
        ap (λ (l : List ℕ). set l (heading_length + i) (get_or list i 0)) p ∙ paste-suc s heading_length list i 0 (omega arith) h
        ∙ ap (λ (j : ℕ). paste s heading_length list j) (sym (add-one i))

    pub list_all : length list ≤ i → i ≤ length list → e ≡ take heading_length s ++ list ++ drop (heading_length + length list) s
    list_all h k =
        p ∙ ap (λ (j : ℕ). paste s heading_length list j) (omega (arith, h, k))
        ∙ ap (λ (l : List ℕ). take heading_length s ++ l ++ drop (heading_length + length list) s) (take-length list)
