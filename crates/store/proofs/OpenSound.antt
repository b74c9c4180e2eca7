-- A store that was just opened is sound: its heading and list passed the tests of opening, it has no entries, and all the rest is zeros.
use Prim.Native.Nat.{ℕ, ◌+◌, ◌*◌, ◌/◌}
use mathlib.Core.Path.{◌≡◌, ◌∙◌}
use mathlib.Core.Bool.{true}
use mathlib.Core.List.{List}
use native.Mathlib.Nat.{add-zero}
use native.Mathlib.Omega.{arith}
use borrow.Author.Tests.{le-leb}
use lib.ListN.{length, drop}
use Rattle.terms.specs.declared.limits.Limits.{Limits}
use Rattle.std.specs.Prelude.{Ok}
use Rattle.store.specs.Layout.{used, entries_start, heading_length, room}
use Rattle.store.specs.Open.{opening, opened_words}
use Rattle.store.specs.Sound.{all_below, all_zero, list_sound, heading_sound, differ_below, sound}
use Rattle.store.proofs.OpenAccepts.{Accepts, accepts}
use Rattle.store.proofs.SoundFacts.{list_from}
use Rattle.store.proofs.OpenedWords.{opened_fields, opened_questions, opened_used, opened_order, opened_length, opened_list, opened_rest}

-- a store whose heading is sound, with no entries and zeros behind the list
no_entries : (limits : Limits) (s : List ℕ) → heading_sound limits s ≡ true → used s ≡ 0 → all_zero (drop (entries_start s) s) ≡ true → sound limits s ≡ true
unfolding sound differ_below all_below
no_entries limits s h u z = rw (h, u, le-leb 0 (room limits s) (omega arith), add-zero, z)

module _ (limits : Limits) (n order : ℕ) (list s : List ℕ) where
  opened_heading : Accepts limits n order list (length s) → heading_sound limits (opened_words n order list (length s)) ≡ true
  unfolding heading_sound
  opened_heading a =
      let words : ℕ = length s in
      let list_kept : list_sound limits (opened_words n order list words) ≡ true =
      list_from limits (opened_words n order list words) a.known (opened_order n order list words ∙ a.order_is)
      (rw (opened_list n order list words a.even, opened_fields n order list words, opened_questions n order list words) a.faultless) in
      rw (
        list_kept,
        opened_fields n order list words,
        opened_questions n order list words,
        opened_length n order list words a.fits,
        le-leb n limits.terms.field.0 a.fields,
        le-leb (length list / 2) limits.questions a.few,
        le-leb (heading_length + 2 * (length list / 2)) words (omega arith),
      )

  pub opened_sound : opening limits n order list (length s) ≡ Ok tt → sound limits (opened_words n order list (length s)) ≡ true
  opened_sound e =
      let a = accepts limits n order list (length s) e in
      no_entries limits (opened_words n order list (length s)) (opened_heading a) (opened_used n order list (length s)) (opened_rest n order list (length s) a.even)
