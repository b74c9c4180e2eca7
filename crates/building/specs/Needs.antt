-- What the code relies on, and no claim.
use Rattle.std.specs.Prelude.{ℕ, Bool, ◌&&◌, List}
use Rattle.store.specs.Layout.{is_handle}

abbrev pub are_handles : List ℕ → ℕ → ℕ → ℕ → Bool
are_handles s a b c = is_handle s a && is_handle s b && is_handle s c
