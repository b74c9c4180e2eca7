-- What the rules of an entry say on each way through the code, and that an entry whose numbers keep their rules names entries before it alone.
use Prim.Native.Nat.{ℕ, ◌+◌, ◌<◌}
use mathlib.Core.Path.{◌≡◌, ◌∙◌, ap, sym}
use mathlib.Core.Bool.{Bool, true, false, not, ◌&&◌, and-false}
use mathlib.Core.List.{List}
use native.Mathlib.Omega.{arith}
use borrow.Author.Tests.{ltb-true}
use lib.Dec.{eqb, leb, ltb}
use Rattle.soundness.specs.Needs.{numbers_sound}
use Rattle.store.specs.declared.entries.Entry.{Entry}
use Rattle.store.specs.Layout.{question_count, entry, leaves}
use Rattle.store.specs.Sound.{asks_before, entry_sound}
use Rattle.store.proofs.Tests.{first_passes, second_passes}

-- ---- an entry
third_fourth : (a b c d e : Bool) → (a && b && c && d && e) ≡ true → (c ≡ true) × (d ≡ true)
third_fourth a b c d e t =
    let four = first_passes (a && b && c && d) e t in
    (second_passes (a && b) c (first_passes (a && b && c) d four), second_passes (a && b && c) d four)

handles_low : (questions i : ℕ) (e : Entry) → numbers_sound questions i e ≡ true → (e.yes < i + leaves) × (e.no < i + leaves)
unfolding numbers_sound
handles_low questions i e t =
    let r = third_fourth (leb 1 e.question) (leb e.question questions) (ltb e.yes (i + leaves)) (ltb e.no (i + leaves))
    (not (eqb e.yes e.no)) t in
    (ltb-true e.yes (i + leaves) r.0, ltb-true e.no (i + leaves) r.1)

-- the rules of an entry, in the parts that the code tests
abbrev rules : List ℕ → ℕ → ℕ → Entry → Bool
rules s questions i e = numbers_sound questions i e && asks_before s e e.yes && asks_before s e e.no

module _ (s : List ℕ) (i : ℕ) {questions : ℕ} {e : Entry} (ee : e ≡ entry s i) (eq : questions ≡ question_count s) {b : Bool} (eb : b ≡ numbers_sound questions i e) where
  entry_parts : rules s questions i e ≡ entry_sound s i
  unfolding entry_sound numbers_sound
  entry_parts = rw (ee, eq)

  pub numbers_fail : b ≡ false → false ≡ entry_sound s i
  numbers_fail d = rw (← entry_parts, ← eb, d)

  -- its handles are those of leaves or of entries before it
  module _ (t : b ≡ true) {count : ℕ} (l : i < count) where
    pub yes_low : {y : ℕ} → y ≡ e.yes → y < count + leaves
    yes_low ey = let h = (handles_low questions i e (sym eb ∙ t)).0 in omega (arith, ey, h)

    pub no_low : {n : ℕ} → n ≡ e.no → n < count + leaves
    no_low en = let h = (handles_low questions i e (sym eb ∙ t)).1 in omega (arith, en, h)

  module _ {y : ℕ} {a : Bool} (ey : y ≡ e.yes) (ea : a ≡ asks_before s e y) where
    yes_asks : {v : Bool} → a ≡ v → asks_before s e e.yes ≡ v
    yes_asks d = ap (asks_before s e) (sym ey) ∙ sym ea ∙ d

    pub yes_fails : a ≡ false → false ≡ entry_sound s i
    yes_fails d = rw (← entry_parts, yes_asks d, and-false)

    pub by_no : b ≡ true → a ≡ true → {n : ℕ} {c : Bool} → n ≡ e.no → c ≡ asks_before s e n → c ≡ entry_sound s i
    by_no t ta en ec = ec ∙ ap (asks_before s e) en ∙ rw (← entry_parts, ← eb, t, yes_asks ta)
