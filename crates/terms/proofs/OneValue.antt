-- Every element of a list of one value is that value, and so is what is read beyond its end: by the list's length.
use Prim.Native.Nat.{ℕ, zero, suc}
use mathlib.Core.Path.{◌≡◌, refl}
use lib.ListN.{get_or, replicate}

pub all_alike : {A : Type 0} (x : A) (n g : ℕ) → get_or (replicate n x) g x ≡ x
all_alike x zero g = refl
all_alike x (suc n) zero = refl
all_alike x (suc n) (suc g) = all_alike x n g
