-- Two stores with different lists: handle 2 of each is 2 = S3(1), so both read every sheet alike, whichever counts and blanks it has.
use Prim.Native.Nat.{ℕ}
use mathlib.Core.Path.{◌≡◌, refl, sym, ◌∙◌}
use mathlib.Core.List.{List, [], ◌∷◌}
use native.Mathlib.Omega.{arith}
use Rattle.operations.proofs.Computing.{operations_compute}
use Rattle.reading.specs.Read.{read_sheet}
use Rattle.store.specs.Meaning.{meaning}
use Rattle.terms.specs.Limits.{store_limits}
use Rattle.terms.specs.Meaning.{Valuation}
use Rattle.store.proofs.SoundFacts.{sound_says}
use Rattle.store.proofs.SoundTree.{meaning_entry}
use Rattle.reading.proofs.SameReading.{same_reading}

abbrev one_question : List ℕ
one_question = 2 ∷ 1 ∷ 1 ∷ 0 ∷ 2 ∷ 97 ∷ 1 ∷ 1 ∷ 0 ∷ []

abbrev two_questions : List ℕ
two_questions = 2 ∷ 2 ∷ 1 ∷ 0 ∷ 2 ∷ 1 ∷ 2 ∷ 97 ∷ 2 ∷ 1 ∷ 0 ∷ []

same_meanings : (v : Valuation) → meaning one_question 2 v ≡ meaning two_questions 2 v
unfolding operations_compute
same_meanings v =
    meaning_entry (sound_says store_limits one_question refl) 0 (omega arith) v ∙ sym (meaning_entry (sound_says store_limits two_questions refl) 0 (omega arith) v)

pub lists_read_alike : (sheet : List ℕ) → read_sheet store_limits one_question 2 sheet ≡ read_sheet store_limits two_questions 2 sheet
unfolding operations_compute
lists_read_alike = same_reading store_limits store_limits one_question two_questions refl refl refl 2 2 refl refl same_meanings
