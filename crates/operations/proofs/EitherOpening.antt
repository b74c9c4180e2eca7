-- The handle laws from either opening: one that is accepted leaves what open leaves for a list that it takes, a raw list's being the resulting one; and a refused one
-- leaves every word.
use Prim.Native.Nat.{ℕ}
use mathlib.Core.Path.{◌≡◌, refl}
use mathlib.Core.Logic.{◌≢◌}
use mathlib.Core.List.{List}
use native.Mathlib.Omega.{arith}
use lib.ListN.{length}
use Rattle.operations.specs.declared.answer.BuildFault.TheVariants.{NotSound}
use Rattle.std.specs.Prelude.{Ok, Err}
use Rattle.operations.specs.BooleanLaws.{Formula, BooleanLaw, Worked}
use Rattle.operations.specs.Handles.{Call, answer_to, Books, first_books, run, HandleLaw}
use Rattle.operations.specs.Kept.{Kept}
use Rattle.operations.specs.Openings.{Opening, by_list, by_raw_list, opened_by}
use Rattle.raw_lists.specs.declared.answer.RawFault.{RawFault}
use Rattle.raw_lists.specs.declared.answer.RawFault.TheVariants as raw_faults
use Rattle.raw_lists.specs.RawOpened.{RawOpened, raw_number}
use Rattle.raw_lists.specs.OpenRaw.{resulting_list, open_raw}
use Rattle.store.specs.declared.answer.OpenFault.{OpenFault}
use Rattle.store.specs.declared.answer.OpenFault.TheVariants.{TooManyFields, UnknownOrder, OddList, TooManyQuestions, OutOfLimits, NotSimplified, NotAbove, TooShort}
use Rattle.store.specs.Opened.{Opened, open_number}
use Rattle.store.specs.Open.{opening, opened, open_store}
use Rattle.terms.specs.declared.limits.Limits.{Limits}
use Rattle.raw_lists.proofs.RawOpens.{raw_opens, resulting_opening, resulting_opened}
use Rattle.raw_lists.proofs.RefusedLeaves.{raw_refused_leaves}
use Rattle.operations.proofs.FormulaHandles.{kept_boolean_law}
use Rattle.operations.proofs.HandleLaw.{kept_run, kept_law, opened_kept}
use Rattle.operations.proofs.NotVacuous.{sound_not_refused}

-- ---- "Number 0 is success."
fault_number : (f : OpenFault) → open_number (Err f) ≢ 0
fault_number TooManyFields e = omega arith
fault_number UnknownOrder e = omega arith
fault_number OddList e = omega arith
fault_number TooManyQuestions e = omega arith
fault_number OutOfLimits e = omega arith
fault_number NotSimplified e = omega arith
fault_number NotAbove e = omega arith
fault_number TooShort e = omega arith

raw_fault : (f : RawFault) → raw_number (Err f) ≢ 0
raw_fault raw_faults.TooManyFields e = omega arith
raw_fault raw_faults.UnknownOrder e = omega arith
raw_fault raw_faults.OddList e = omega arith
raw_fault raw_faults.TooManyEquations e = omega arith
raw_fault raw_faults.OutOfLimits e = omega arith
raw_fault raw_faults.TooManyQuestions e = omega arith
raw_fault raw_faults.TooShort e = omega arith

-- ---- an accepted opening
module _ (limits : Limits) (s : List ℕ) where
  list_kept : (n order : ℕ) (list : List ℕ) → open_number (open_store limits n order list s).answer ≡ 0 → Kept limits (first_books (open_store limits n order list s).words)
  unfolding open_store
  list_kept n order list = go (opening limits n order list (length s)) refl
    where
      go : (a : Opened) → opening limits n order list (length s) ≡ a → open_number (opened a n order list s).answer ≡ 0 → Kept limits (first_books (opened a n order list s).words)
      go (Ok tt) i e = opened_kept limits n order list s i
      go (Err f) i e = absurd (fault_number f e)

  raw_kept : (n order : ℕ) (raw : List ℕ) → raw_number (open_raw limits n order raw s).answer ≡ 0 → Kept limits (first_books (open_raw limits n order raw s).words)
  raw_kept n order raw = go (open_raw limits n order raw s).answer refl
    where
      go : (a : RawOpened) → (open_raw limits n order raw s).answer ≡ a → raw_number a ≡ 0 → Kept limits (first_books (open_raw limits n order raw s).words)
      go (Ok tt) i e =
          let o = raw_opens limits n order raw s i in
          rw (resulting_opened limits n order raw s o) (opened_kept limits n order (resulting_list o.known raw) s (resulting_opening limits n order raw s o))
      go (Err f) i e = absurd (raw_fault f e)

  -- the books that it begins
  pub either_kept : (o : Opening) → (opened_by limits o s).answer ≡ 0 → Kept limits (first_books (opened_by limits o s).words)
  either_kept (by_list n order list) = list_kept n order list
  either_kept (by_raw_list n order raw) = raw_kept n order raw

  -- ---- a refused one
  list_leaves : (n order : ℕ) (list : List ℕ) → open_number (open_store limits n order list s).answer ≢ 0 → (open_store limits n order list s).words ≡ s
  unfolding open_store
  list_leaves n order list = go (opening limits n order list (length s))
    where
      go : (a : Opened) → open_number (opened a n order list s).answer ≢ 0 → (opened a n order list s).words ≡ s
      go (Ok tt) e = absurd (e refl)
      go (Err f) e = refl

  raw_leaves : (n order : ℕ) (raw : List ℕ) → raw_number (open_raw limits n order raw s).answer ≢ 0 → (open_raw limits n order raw s).words ≡ s
  raw_leaves n order raw = go (open_raw limits n order raw s).answer refl
    where
      go : (a : RawOpened) → (open_raw limits n order raw s).answer ≡ a → raw_number a ≢ 0 → (open_raw limits n order raw s).words ≡ s
      go (Ok tt) i e = absurd (e refl)
      go (Err f) i e = raw_refused_leaves limits n order raw s f i

  -- "On refusal ... all lent words are unchanged."
  pub refused_leaves : (o : Opening) → (opened_by limits o s).answer ≢ 0 → (opened_by limits o s).words ≡ s
  refused_leaves (by_list n order list) = list_leaves n order list
  refused_leaves (by_raw_list n order raw) = raw_leaves n order raw

-- ---- the laws
-- either opening, of any words, that is accepted
module _ (limits : Limits) (o : Opening) (s : List ℕ) (e : (opened_by limits o s).answer ≡ 0) (calls : List Call) where
  abbrev books : Books
  books = run limits (first_books (opened_by limits o s).words) calls

  kept_books : Kept limits books
  kept_books = kept_run (either_kept limits s o e) calls

  -- "any two pairs have equal handles exactly if their rules are alike in truth under every choice of counts"
  pub either_law : HandleLaw books.ledger
  either_law = kept_law kept_books

  pub either_boolean_law : (letters : ℕ → ℕ) (f g : Formula) → BooleanLaw f g → (h k : ℕ) (b : Books) → Worked limits letters books f h b → Worked limits letters books g k b → h ≡ k
  either_boolean_law letters f g law h k b w u = kept_boolean_law kept_books {f = f} {g = g} law w u

  -- Of the store of such a run no call answers 22.
  pub either_never_not_sound : (c : Call) → (answer_to limits books.words c).answer ≢ Err NotSound
  either_never_not_sound = sound_not_refused kept_books.sound
