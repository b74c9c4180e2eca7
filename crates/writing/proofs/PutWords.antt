-- Words written over others: what is written right after what was written before is written as one.
use Prim.Native.Nat.{ℕ, ◌+◌, ◌≤◌}
use mathlib.Core.Path.{◌≡◌, sym, ◌∙◌, ap, ap₂}
use mathlib.Core.List.{List, ◌++◌, append_assoc}
use native.Mathlib.Omega.{arith}
use lib.ListN.{length, take, drop, length-append, length-drop}
use lib.Seq.{take_at, drop-append-add, drop-drop, length-take-le}
use Rattle.writing.specs.Needs.{put}

module _ (out : List ℕ) (at : ℕ) (ws : List ℕ) where
  front_length : at ≤ length out → length (take at out ++ ws) ≡ at + length ws
  front_length h = length-append (take at out) ws ∙ ap (λ n. n + length ws) (length-take-le at out h)

  pub put_length : at + length ws ≤ length out → length (put out at ws) ≡ length out
  put_length h = omega (arith, length-append (take at out ++ ws) (drop (at + length ws) out), front_length (omega arith), length-drop (at + length ws) out)

  pub put_put : (next : ℕ) (vs : List ℕ) → next ≡ at + length ws → at + length ws ≤ length out → put (put out at ws) next vs ≡ put out at (ws ++ vs)
  put_put next vs e h =
      let front = take at out ++ ws in
      let rest = drop (at + length ws) out in
      let long : length front ≡ next = front_length (omega arith) ∙ sym e in
      let before : take next (front ++ rest) ≡ front = take_at front rest next long in
      let all : at + length ws + length vs ≡ at + length (ws ++ vs) = omega (arith, length-append ws vs) in
      let after : drop (next + length vs) (front ++ rest) ≡ drop (at + length (ws ++ vs)) out =
      ap (λ n. drop (n + length vs) (front ++ rest)) (sym long)
      ∙ drop-append-add front rest (length vs)
      ∙ drop-drop (length vs) (at + length ws) out
      ∙ ap (λ n. drop n out) all in
      ap₂ (λ x y. x ++ vs ++ y) before after ∙ ap (λ x. x ++ drop (at + length (ws ++ vs)) out) (append_assoc (take at out) ws vs)
