-- The words of a store (document 01, "The store"; document 02, ix).
use Rattle.std.specs.Prelude.{ℕ, ◌+◌, ◌-◌, ◌*◌, ◌/◌, min, Bool, List, ◌++◌, ltb, length, get_or, set, take, drop, replicate}
use Rattle.terms.specs.declared.term.Equation.{Equation}
use Rattle.terms.specs.Words.{equation, term_of}
use Rattle.terms.specs.declared.limits.Limits.{Limits}
use Rattle.store.specs.declared.entries.Entry.{Entry}

-- "Word 0 is n, word 1 the number of questions q (0 to 20), word 2 the entries used." Document 02 (ix): "The store's heading gains a word 3
-- naming its order ...; questions start at word 4"
abbrev pub heading_length : ℕ
heading_length = 4

abbrev pub field_count : List ℕ → ℕ
field_count s = get_or s 0 0

abbrev pub question_count : List ℕ → ℕ
question_count s = get_or s 1 0

abbrev pub used_place : ℕ
used_place = 2

abbrev pub used : List ℕ → ℕ
used s = get_or s used_place 0

abbrev pub with_used : List ℕ → ℕ → List ℕ
with_used s u = set s used_place u

abbrev pub store_order : List ℕ → ℕ
store_order s = get_or s 3 0

-- "Then q questions, two term words each, left first.": the k-th question of a list of words, counted from 0
abbrev pub question_in : List ℕ → ℕ → Equation
question_in words k = equation (term_of (get_or words (2 * k) 0)) (term_of (get_or words (2 * k + 1) 0))

abbrev pub list_words : List ℕ → List ℕ
list_words s = take (2 * question_count s) (drop heading_length s)

-- the word at which the question with the number k begins, counted from 1 as entries do
abbrev pub question_start : ℕ → ℕ
question_start k = heading_length + 2 * (k - 1)

-- the question with the number k
abbrev pub question : List ℕ → ℕ → Equation
question s k = question_in (list_words s) (k - 1)

-- "Then entries of three words: question number (1 to q), yes handle, no handle."
abbrev pub entry_of : ℕ → ℕ → ℕ → Entry
entry_of q y n = record { question = q; yes = y; no = n }

abbrev pub entries_start : List ℕ → ℕ
entries_start s = heading_length + 2 * question_count s

abbrev pub entry : List ℕ → ℕ → Entry
entry s i =
    let at = entries_start s + 3 * i in
    entry_of (get_or s at 0) (get_or s (at + 1) 0) (get_or s (at + 2) 0)

-- "Handle 0 is the leaf never, 1 the leaf always; the i-th entry, counted from 0, is handle i + 2."
abbrev pub leaves : ℕ
leaves = 2

-- a handle of the store's: not "at or above used + 2"
abbrev pub is_handle : List ℕ → ℕ → Bool
is_handle s handle = ltb handle (used s + leaves)

-- "Room is (length - 3 - 2q) / 3 rounded down, at most 4,096 entries.", by document 02 (ix) one word more: length - 4 - 2q
abbrev pub room : Limits → List ℕ → ℕ
room limits s = min ((length s - entries_start s) / 3) limits.entries

-- zeros in all words from a place on
abbrev pub cleared_from : List ℕ → ℕ → List ℕ
cleared_from s start = take start s ++ replicate (length s - start) 0
