-- Document 01, "Sheets and stores to try": the starred cases, and those of document 02's requests; each number as the papers have it or as their
-- words give it. By document 02 (ix) a store's heading has a fourth word, its order, and each length is one word more.
use Rattle.std.specs.Prelude.{ℕ, List, [], ◌∷◌, ◌++◌, pos, negsuc, replicate}
use Rattle.operations.specs.ThreeEqual.{three_equal, last_equal, outer_equal, not_outer, after_case_6}
use Rattle.cases.specs.BlanksTable.{blanks_cases}
use Rattle.cases.specs.LoggerTable.{logger_cases}
use Rattle.cases.specs.RawTable.{raw_cases}
use Rattle.cases.specs.Case.{simplify, open_with, build, logger_open, logger_build, negate, join, choose, read, write_back, verdict, example, check, ask_list_gap, simplified, answered, checked, gap_is, CaseCall, Case}

-- S3(1) = S1(2) simplifies to 2 = S2(1): words 2, 65, gap 2.
abbrev pub case_1 : Case
case_1 = record { start = []; calls = simplify 97 34 ∷ []; expected = simplified 0 2 2 65 (pos 2) ∷ [] }

-- S2(1) = 0 is never; S(1) = S2(1) is never; S(1) = S(1) is always.
abbrev pub case_2 : Case
case_2 = record {
  start = [];
  calls = simplify 65 0 ∷ simplify 33 65 ∷ simplify 33 33 ∷ [];
  expected = simplified 0 0 0 0 (pos 0) ∷ simplified 0 0 0 0 (pos 0) ∷ simplified 0 1 0 0 (pos 0) ∷ [];
}

-- S2(1) = S2(0) becomes 1 = 0: words 1, 0.
abbrev pub case_3 : Case
case_3 = record { start = []; calls = simplify 65 64 ∷ []; expected = simplified 0 2 1 0 (pos 0) ∷ [] }

-- Word 32736 is 1,023 steps of zero, accepted; 32768 is refused (14 or 35). The edge of 255, words 8160 and 8192, is none since document 02 (viii).
abbrev pub case_4 : Case
case_4 = record {
  start = replicate 6 7;
  calls =
      simplify 1 32736 ∷ simplify 1 32768 ∷ simplify 32768 1 ∷ simplify 1 8192
      ∷ open_with 1 0 (1 ∷ 32768 ∷ []) ∷ open_with 1 0 (1 ∷ 32736 ∷ []) ∷ [];
  expected =
      simplified 0 2 1 32736 (pos 1023) ∷ simplified 35 0 0 0 (pos 0) ∷ simplified 35 0 0 0 (pos 0) ∷ simplified 0 2 1 8192 (pos 256)
      ∷ answered 14 0 (replicate 6 7) (1 ∷ 32768 ∷ [])
      ∷ answered 0 0 (1 ∷ 1 ∷ 0 ∷ 0 ∷ 1 ∷ 32736 ∷ []) (1 ∷ 32736 ∷ []) ∷ [];
}

-- ---- document 02 (viii): 1,023 steps
-- S1023(16) = 15, either way round: gap -1,023, which is `negsuc 1022`.
abbrev pub steps_simplified : Case
steps_simplified = record {
  start = [];
  calls = simplify 15 32752 ∷ simplify 32752 15 ∷ [];
  expected = simplified 0 2 32752 15 (negsuc 1022) ∷ simplified 0 2 32752 15 (negsuc 1022) ∷ [];
}

-- n = 2, S1023(2) = 1, 9 words: built turned round, it is handle 2.
abbrev pub steps_built : Case
steps_built =
    let list : List ℕ = 32738 ∷ 1 ∷ [] in
    let rule : List ℕ = 2 ∷ 1 ∷ 32738 ∷ 0 ∷ [] in
    record {
      start = replicate 9 7;
      calls = open_with 2 0 list ∷ build rule ∷ [];
      expected =
          answered 0 0 (2 ∷ 1 ∷ 0 ∷ 0 ∷ (list ++ replicate 3 0)) list
          ∷ answered 0 2 (2 ∷ 1 ∷ 1 ∷ 0 ∷ 32738 ∷ 1 ∷ 1 ∷ 1 ∷ 0 ∷ []) rule ∷ [];
    }

-- The words of a store whose question has 1,023 steps: it is sound. 1 = S1024(0) is refused in a rule, and so is S(1) = S1024(0), though it would simplify
-- to the listed question; 1 = S256(0) is within the limit and not on the list.
abbrev pub steps_in_a_store : Case
steps_in_a_store =
    let s : List ℕ = 1 ∷ 1 ∷ 0 ∷ 0 ∷ 1 ∷ 32736 ∷ 0 ∷ 0 ∷ 0 ∷ [] in
    let beyond : List ℕ = 2 ∷ 1 ∷ 32768 ∷ 0 ∷ [] in
    let raised : List ℕ = 2 ∷ 33 ∷ 32768 ∷ 0 ∷ [] in
    let unlisted : List ℕ = 2 ∷ 1 ∷ 8192 ∷ 0 ∷ [] in
    let listed : List ℕ = 2 ∷ 1 ∷ 32736 ∷ 0 ∷ [] in
    record {
      start = s;
      calls = verdict 0 ∷ build beyond ∷ build raised ∷ build unlisted ∷ build listed ∷ [];
      expected =
          answered 0 0 s [] ∷ answered 35 0 s beyond ∷ answered 35 0 s raised ∷ answered 36 0 s unlisted
          ∷ answered 0 2 (1 ∷ 1 ∷ 1 ∷ 0 ∷ 1 ∷ 32736 ∷ 1 ∷ 1 ∷ 0 ∷ []) listed ∷ [];
    }

-- Words that are asked for the verdict of handle 0, which every store has: number 0 if they are a sound store, and 22 if they are none. The result is 0
-- either way.
abbrev words_tried : ℕ → List ℕ → Case
words_tried number s = record { start = s; calls = verdict 0 ∷ []; expected = answered number 0 s [] ∷ [] }

-- With 1,024 steps it is not sound.
abbrev pub steps_beyond_in_a_store : Case
steps_beyond_in_a_store = words_tried 22 (1 ∷ 1 ∷ 0 ∷ 0 ∷ 1 ∷ 32768 ∷ [])

-- n = 0, empty list, 4 words: opened, all zero. The rule of one always row has handle 1; its example writes nothing. (K is 0 for an empty list.)
abbrev pub case_5_opened : Case
case_5_opened = record {
  start = replicate 4 9;
  calls = open_with 0 0 [] ∷ build (1 ∷ 0 ∷ 0 ∷ 0 ∷ []) ∷ verdict 1 ∷ example 1 [] ∷ ask_list_gap ∷ [];
  expected = answered 0 0 (replicate 4 0) [] ∷ answered 0 1 (replicate 4 0) (1 ∷ 0 ∷ 0 ∷ 0 ∷ []) ∷ answered 0 1 (replicate 4 0) [] ∷ answered 0 0 (replicate 4 0) []
      ∷ gap_is 0 ∷ [];
}

-- 3 words: 21.
abbrev pub case_5_short : Case
case_5_short = record { start = replicate 3 9; calls = open_with 0 0 [] ∷ []; expected = answered 21 0 (replicate 3 9) [] ∷ [] }

-- ---- n = 3, list 2 = 1, 3 = 1, 3 = 2
-- Store of 22 words. Building 3 = 2 gives handle 5 and the words 3 3 4 0, 2 1 3 1 3 2, 2 1 0, 3 1 0, 2 0 3, 1 2 4. Case 7: then building 3 = 1
-- gives handle 2; used stays 4. Case 8: 2 = 1 and 3 = 2 and not 3 = 1 is handle 0. The list stands in both orders, so that in the older one all is the
-- same but for word 3. The logger's open and build leave the same as the others.
abbrev pub cases_6_to_8 : (ℕ → ℕ → List ℕ → CaseCall) → (List ℕ → CaseCall) → ℕ → Case
cases_6_to_8 opens builds order =
    let s = after_case_6 order in
    record {
      start = replicate 22 7;
      calls = opens 3 order three_equal ∷ builds last_equal ∷ builds outer_equal ∷ builds not_outer ∷ [];
      expected =
          answered 0 0 (3 ∷ 3 ∷ 0 ∷ order ∷ (three_equal ++ replicate 12 0)) three_equal
          ∷ answered 0 5 s last_equal ∷ answered 0 2 s outer_equal ∷ answered 0 0 s not_outer ∷ [];
    }

-- With 19 words: 51, unchanged.
abbrev pub case_6_short : Case
case_6_short =
    let s : List ℕ = 3 ∷ 3 ∷ 0 ∷ 0 ∷ (three_equal ++ replicate 9 0) in
    record {
      start = replicate 19 7;
      calls = open_with 3 0 three_equal ∷ build last_equal ∷ [];
      expected = answered 0 0 s three_equal ∷ answered 51 0 s last_equal ∷ [];
    }

-- 000's Example 23, 1 not S(2), 3 = S(1), 3 = S2(2): handle 0. List words 34 1, 3 33, 3 66. The rule is the first negated, and the others.
abbrev pub case_9 : Case
case_9 =
    let list : List ℕ = 34 ∷ 1 ∷ 3 ∷ 33 ∷ 3 ∷ 66 ∷ [] in
    let rule : List ℕ =
    2 ∷ 34 ∷ 1 ∷ 0 ∷ 3 ∷ 0 ∷ 0 ∷ 0 ∷ 2 ∷ 3 ∷ 33 ∷ 0 ∷ 4 ∷ 1 ∷ 2 ∷ 0 ∷ 2 ∷ 3 ∷ 66 ∷ 0 ∷ 4 ∷ 3 ∷ 4 ∷ 0 ∷ [] in
    let s : List ℕ = 3 ∷ 3 ∷ 0 ∷ 0 ∷ (list ++ replicate 3 0) in
    record {
      start = replicate 13 7;
      calls = open_with 3 0 list ∷ build rule ∷ [];
      expected = answered 0 0 s list ∷ answered 0 0 s rule ∷ [];
    }

-- The same by build: handle 3 and those words, joined with itself it is handle 3 again, and for the two entries of its negation there is no room.
abbrev pub case_11_built : Case
case_11_built =
    let list : List ℕ = 1 ∷ 0 ∷ 1 ∷ 32 ∷ [] in
    let rule : List ℕ = 2 ∷ 1 ∷ 0 ∷ 0 ∷ 3 ∷ 0 ∷ 0 ∷ 0 ∷ 2 ∷ 1 ∷ 32 ∷ 0 ∷ 3 ∷ 2 ∷ 0 ∷ 0 ∷ 4 ∷ 1 ∷ 3 ∷ 0 ∷ [] in
    let s : List ℕ = 1 ∷ 2 ∷ 2 ∷ 0 ∷ 1 ∷ 0 ∷ 1 ∷ 32 ∷ 2 ∷ 0 ∷ 1 ∷ 1 ∷ 0 ∷ 2 ∷ [] in
    record {
      start = replicate 14 7;
      calls = open_with 1 0 list ∷ build rule ∷ join 3 3 ∷ negate 3 ∷ example 3 (7 ∷ []) ∷ [];
      expected =
          answered 0 0 (1 ∷ 2 ∷ 0 ∷ 0 ∷ (list ++ replicate 6 0)) list
          ∷ answered 0 3 s rule ∷ answered 0 3 s [] ∷ answered 51 0 s [] ∷ answered 0 0 s (2 ∷ []) ∷ [];
    }

-- n = 2, 2 = S(0) and 2 = S3(1): never.
abbrev pub case_12 : Case
case_12 =
    let list : List ℕ = 2 ∷ 32 ∷ 2 ∷ 97 ∷ [] in
    let rule : List ℕ = 2 ∷ 2 ∷ 32 ∷ 0 ∷ 2 ∷ 2 ∷ 97 ∷ 0 ∷ 4 ∷ 0 ∷ 1 ∷ 0 ∷ [] in
    let s : List ℕ = 2 ∷ 2 ∷ 0 ∷ 0 ∷ list in
    record {
      start = replicate 8 7;
      calls = open_with 2 0 list ∷ build rule ∷ verdict 0 ∷ [];
      expected = answered 0 0 s list ∷ answered 0 0 s rule ∷ answered 0 0 s [] ∷ [];
    }

-- 25 words that a call may write to
abbrev sevens : List ℕ
sevens = replicate 25 7

-- The words of a store with n = 1, list 1 = 0, 1 = S(0), and the rule neither, handle 3: example 2, which is n × (K + 1). Written back, its rule has the two leaves' rows and two rows
-- for each of the two entries.
abbrev pub case_11 : Case
case_11 =
    let s : List ℕ = 1 ∷ 2 ∷ 2 ∷ 0 ∷ 1 ∷ 0 ∷ 1 ∷ 32 ∷ 2 ∷ 0 ∷ 1 ∷ 1 ∷ 0 ∷ 2 ∷ [] in
    record {
      start = s;
      calls = example 3 (7 ∷ []) ∷ verdict 3 ∷ read 3 (2 ∷ []) ∷ read 3 (1 ∷ []) ∷ write_back 3 sevens ∷ example 0 (7 ∷ []) ∷ example 4 (7 ∷ []) ∷ ask_list_gap ∷ [];
      expected =
          answered 0 0 s (2 ∷ []) ∷ answered 0 2 s [] ∷ answered 0 1 s (2 ∷ []) ∷ answered 0 0 s (1 ∷ [])
          ∷ answered 0 6 s (0 ∷ 0 ∷ 0 ∷ 0 ∷ 1 ∷ 0 ∷ 0 ∷ 0 ∷ 2 ∷ 1 ∷ 32 ∷ 0 ∷ 5 ∷ 2 ∷ 0 ∷ 1 ∷ 2 ∷ 1 ∷ 0 ∷ 0 ∷ 5 ∷ 4 ∷ 0 ∷ 3 ∷ 7 ∷ [])
          ∷ answered 52 0 s (7 ∷ []) ∷ answered 41 0 s (7 ∷ []) ∷ gap_is 1 ∷ [];
    }

-- ---- document 02 (ix): the two orders
-- n = 3, S(3) = 1 and 3 = 2, in the order in which each list stands
abbrev fields_first_list : List ℕ
fields_first_list = 35 ∷ 1 ∷ 3 ∷ 2 ∷ []

abbrev left_first_list : List ℕ
left_first_list = 3 ∷ 2 ∷ 35 ∷ 1 ∷ []

-- Each list opens with its own order, and is 16 with the other.
abbrev pub orders_opened : Case
orders_opened =
    let s : List ℕ = 3 ∷ 2 ∷ 0 ∷ 0 ∷ fields_first_list in
    record {
      start = replicate 8 7;
      calls =
          open_with 3 1 fields_first_list ∷ open_with 3 0 fields_first_list
          ∷ open_with 3 0 left_first_list ∷ open_with 3 1 left_first_list ∷ [];
      expected =
          answered 16 0 (replicate 8 7) fields_first_list ∷ answered 0 0 s fields_first_list
          ∷ answered 16 0 s left_first_list ∷ answered 0 0 (3 ∷ 2 ∷ 0 ∷ 1 ∷ left_first_list) left_first_list ∷ [];
    }

-- n = 4. Between neighbours of these lists each of the first three numbers decides somewhere where the next one would say the opposite, and the fourth
-- decides somewhere: 2 = 1, S(2) = 1, 3 = 1, 3 = S(1), then in order 0 S(3) = 1, 3 = 2, 3 = S(2), in order 1 3 = 2, 3 = S(2), S(3) = 1, and then 4 = 1. No
-- question stands twice in either order.
abbrev pub orders_compared : Case
orders_compared =
    let first : List ℕ = 2 ∷ 1 ∷ 34 ∷ 1 ∷ 3 ∷ 1 ∷ 3 ∷ 33 ∷ 35 ∷ 1 ∷ 3 ∷ 2 ∷ 3 ∷ 34 ∷ 4 ∷ 1 ∷ [] in
    let second : List ℕ = 2 ∷ 1 ∷ 34 ∷ 1 ∷ 3 ∷ 1 ∷ 3 ∷ 33 ∷ 3 ∷ 2 ∷ 3 ∷ 34 ∷ 35 ∷ 1 ∷ 4 ∷ 1 ∷ [] in
    let twice : List ℕ = 3 ∷ 1 ∷ 3 ∷ 1 ∷ [] in
    let s : List ℕ = 4 ∷ 8 ∷ 0 ∷ 0 ∷ first in
    let t : List ℕ = 4 ∷ 8 ∷ 0 ∷ 1 ∷ second in
    record {
      start = replicate 20 7;
      calls = open_with 4 1 first ∷ open_with 4 0 first ∷ open_with 4 0 second ∷ open_with 4 1 second ∷ open_with 4 0 twice ∷ open_with 4 1 twice ∷ [];
      expected =
          answered 16 0 (replicate 20 7) first ∷ answered 0 0 s first ∷ answered 16 0 s second ∷ answered 0 0 t second
          ∷ answered 16 0 t twice ∷ answered 16 0 t twice ∷ [];
    }

-- 17 fields, another order, one word: 11, then 18, then 12. Another order comes before every fault of the list and of the store's length.
abbrev pub orders_refused : Case
orders_refused =
    let s : List ℕ = replicate 3 7 in
    record {
      start = s;
      calls =
          open_with 17 2 (1 ∷ []) ∷ open_with 3 2 (1 ∷ []) ∷ open_with 3 1 (1 ∷ []) ∷ open_with 3 4294967295 [] ∷ open_with 3 2 (replicate 42 9)
          ∷ open_with 3 1 [] ∷ [];
      expected =
          answered 11 0 s (1 ∷ []) ∷ answered 18 0 s (1 ∷ []) ∷ answered 12 0 s (1 ∷ []) ∷ answered 18 0 s [] ∷ answered 18 0 s (replicate 42 9)
          ∷ answered 21 0 s [] ∷ [];
    }

-- The rest of opening's numbers, in the older order, n = 3, a store of three words: 43 words, 42 words, field 9; 2 = 3 after S(3) = 1, 2 = 3 before field 9, and
-- 3 = 2 after S(3) = 1 and before field 9, since the questions are tested one after the other; and 21 for a list without a fault.
abbrev pub openings_refused : Case
openings_refused =
    let s : List ℕ = replicate 3 7 in
    let turned_second : List ℕ = 35 ∷ 1 ∷ 2 ∷ 3 ∷ [] in
    let turned_first : List ℕ = 2 ∷ 3 ∷ 9 ∷ 9 ∷ [] in
    let below : List ℕ = 35 ∷ 1 ∷ 3 ∷ 2 ∷ 9 ∷ 9 ∷ [] in
    record {
      start = s;
      calls =
          open_with 3 1 (replicate 43 9) ∷ open_with 3 1 (replicate 42 9) ∷ open_with 3 1 (9 ∷ 9 ∷ []) ∷ open_with 3 1 turned_second ∷ open_with 3 1 turned_first
          ∷ open_with 3 1 below ∷ open_with 3 1 left_first_list ∷ [];
      expected =
          answered 12 0 s (replicate 43 9) ∷ answered 13 0 s (replicate 42 9) ∷ answered 14 0 s (9 ∷ 9 ∷ []) ∷ answered 15 0 s turned_second ∷ answered 15 0 s turned_first
          ∷ answered 16 0 s below ∷ answered 21 0 s left_first_list ∷ [];
    }

-- Store of 14 words. 3 = 2 and not S(3) = 1: handle 3, its entries, and example 0 0 0. Opened again, 3 = 2 and S(3) = 1: handle 3, sometimes, and
-- example 1 0 0.
abbrev rules_in_order : ℕ → List ℕ → List ℕ → Case
rules_in_order order list entries =
    let without : List ℕ = 2 ∷ 3 ∷ 2 ∷ 0 ∷ 2 ∷ 35 ∷ 1 ∷ 0 ∷ 3 ∷ 1 ∷ 0 ∷ 0 ∷ 4 ∷ 0 ∷ 2 ∷ 0 ∷ [] in
    let both : List ℕ = 2 ∷ 3 ∷ 2 ∷ 0 ∷ 2 ∷ 35 ∷ 1 ∷ 0 ∷ 4 ∷ 0 ∷ 1 ∷ 0 ∷ [] in
    let opened : List ℕ = 3 ∷ 2 ∷ 0 ∷ order ∷ (list ++ replicate 6 0) in
    let s : List ℕ = 3 ∷ 2 ∷ 2 ∷ order ∷ (list ++ entries) in
    let t : List ℕ = 3 ∷ 2 ∷ 2 ∷ order ∷ (list ++ 2 ∷ 1 ∷ 0 ∷ 1 ∷ 2 ∷ 0 ∷ []) in
    record {
      start = replicate 14 7;
      calls =
          open_with 3 order list ∷ build without ∷ verdict 3 ∷ example 3 (replicate 3 7)
          ∷ open_with 3 order list ∷ build both ∷ verdict 3 ∷ example 3 (replicate 3 7) ∷ [];
      expected =
          answered 0 0 opened list ∷ answered 0 3 s without ∷ answered 0 2 s [] ∷ answered 0 0 s (0 ∷ 0 ∷ 0 ∷ [])
          ∷ answered 0 0 opened list ∷ answered 0 3 t both ∷ answered 0 2 t [] ∷ answered 0 0 t (1 ∷ 0 ∷ 0 ∷ []) ∷ [];
    }

-- Order 0: S(3) = 1 is asked first, and 3 = 2 by no. Order 1: 3 = 2 first, and S(3) = 1 by yes.
abbrev pub rules_fields_first : Case
rules_fields_first = rules_in_order 0 fields_first_list (2 ∷ 1 ∷ 0 ∷ 1 ∷ 0 ∷ 2 ∷ [])

abbrev pub rules_left_first : Case
rules_left_first = rules_in_order 1 left_first_list (2 ∷ 0 ∷ 1 ∷ 1 ∷ 2 ∷ 0 ∷ [])

-- Case 6's words with word 3 set to 2: every later call is 22.
abbrev pub unknown_order_refused : Case
unknown_order_refused =
    let s = after_case_6 2 in
    let out : List ℕ = replicate 3 7 in
    record {
      start = s;
      calls = build last_equal ∷ negate 5 ∷ join 5 5 ∷ choose 5 1 0 ∷ read 5 out ∷ write_back 5 out ∷ verdict 5 ∷ example 5 out ∷ [];
      expected =
          answered 22 0 s last_equal ∷ answered 22 0 s [] ∷ answered 22 0 s [] ∷ answered 22 0 s [] ∷ answered 22 0 s out ∷ answered 22 0 s out
          ∷ answered 22 0 s [] ∷ answered 22 0 s out ∷ [];
    }

-- A list is sound in the order that word 3 names, and not in the other; one that stands in both is sound under either word. Another word 3 is not sound,
-- and neither are fewer than four words, nor the words of cases 6 and 11 without an order: there word 3 is 2, and 1 before a list that begins with 0 = 1. An
-- empty list stands in both orders.
abbrev pub orders_in_a_store : List Case
orders_in_a_store =
    words_tried 0 (3 ∷ 2 ∷ 0 ∷ 0 ∷ fields_first_list) ∷ words_tried 22 (3 ∷ 2 ∷ 0 ∷ 1 ∷ fields_first_list)
    ∷ words_tried 0 (3 ∷ 2 ∷ 0 ∷ 1 ∷ left_first_list) ∷ words_tried 22 (3 ∷ 2 ∷ 0 ∷ 0 ∷ left_first_list)
    ∷ words_tried 0 (after_case_6 0) ∷ words_tried 0 (after_case_6 1) ∷ words_tried 22 (after_case_6 2) ∷ words_tried 22 (after_case_6 4294967295)
    ∷ words_tried 22 (3 ∷ 3 ∷ 4 ∷ 2 ∷ 1 ∷ 3 ∷ 1 ∷ 3 ∷ 2 ∷ 2 ∷ 1 ∷ 0 ∷ 3 ∷ 1 ∷ 0 ∷ 2 ∷ 0 ∷ 3 ∷ 1 ∷ 2 ∷ 4 ∷ [])
    ∷ words_tried 22 (1 ∷ 2 ∷ 2 ∷ 1 ∷ 0 ∷ 1 ∷ 32 ∷ 2 ∷ 0 ∷ 1 ∷ 1 ∷ 0 ∷ 2 ∷ [])
    ∷ words_tried 22 [] ∷ words_tried 22 (replicate 3 0) ∷ words_tried 0 (replicate 4 0) ∷ words_tried 0 (0 ∷ 0 ∷ 0 ∷ 1 ∷ [])
    ∷ words_tried 22 (0 ∷ 0 ∷ 0 ∷ 2 ∷ []) ∷ []

-- ---- document 02 (vii): tables of entries, each with its root
-- No entries: a root of 0 is never, 1 always, and 2 no handle. Two, three, five or six words are not whole entries, whichever the root. Handle 3 is not there, with one
-- entry.
abbrev pub check_shapes : Case
check_shapes = record {
  start = [];
  calls =
      check [] 0
      ∷ check [] 1
      ∷ check [] 2
      ∷ check (3 ∷ 2 ∷ []) 0
      ∷ check (3 ∷ 2 ∷ 1 ∷ []) 0
      ∷ check (3 ∷ 2 ∷ 1 ∷ 0 ∷ 3 ∷ []) 2
      ∷ check (3 ∷ 2 ∷ 1 ∷ 0 ∷ 3 ∷ 2 ∷ []) 2
      ∷ check (3 ∷ 2 ∷ 1 ∷ 0 ∷ []) 3 ∷ [];
  expected = checked 0 0 ∷ checked 0 1 ∷ checked 81 0 ∷ checked 81 0 ∷ checked 81 0 ∷ checked 81 0 ∷ checked 81 0 ∷ checked 81 0 ∷ [];
}

-- Document 000's Example 29, S2(2) = 1 over 3 = 2: rule 8' applies; rewritten, with S2(3) = 1 below, none does. Its Example 36, 2 = 1 over 3 = 1: the right field may be
-- named again; zero too, 2 = 0 over 3 = 0.
abbrev pub check_examples : Case
check_examples = record {
  start = [];
  calls =
      check (3 ∷ 2 ∷ 1 ∷ 0 ∷ 66 ∷ 1 ∷ 2 ∷ 0 ∷ []) 3
      ∷ check (67 ∷ 1 ∷ 1 ∷ 0 ∷ 66 ∷ 1 ∷ 2 ∷ 0 ∷ []) 3
      ∷ check (3 ∷ 1 ∷ 1 ∷ 0 ∷ 2 ∷ 1 ∷ 2 ∷ 0 ∷ []) 3
      ∷ check (3 ∷ 0 ∷ 1 ∷ 0 ∷ 2 ∷ 0 ∷ 2 ∷ 0 ∷ []) 3 ∷ [];
  expected = checked 86 0 ∷ checked 0 2 ∷ checked 0 2 ∷ checked 0 2 ∷ [];
}

-- Rule 8' deep in the yes part, also by a no on the way, there once more where no sheet follows the path 2 = 1, not 3 = 1, 3 = 2; in the no part the left field may be named.
-- Document 01's case 12, 2 = S(0) over 2 = S3(1), and over it by no.
abbrev pub check_rule_8 : Case
check_rule_8 = record {
  start = [];
  calls =
      check (4 ∷ 2 ∷ 1 ∷ 0 ∷ 3 ∷ 1 ∷ 2 ∷ 0 ∷ 2 ∷ 1 ∷ 3 ∷ 0 ∷ []) 4
      ∷ check (4 ∷ 2 ∷ 1 ∷ 0 ∷ 3 ∷ 1 ∷ 1 ∷ 2 ∷ 2 ∷ 1 ∷ 3 ∷ 0 ∷ []) 4
      ∷ check (3 ∷ 2 ∷ 1 ∷ 0 ∷ 3 ∷ 1 ∷ 1 ∷ 2 ∷ 2 ∷ 1 ∷ 3 ∷ 0 ∷ []) 4
      ∷ check (3 ∷ 2 ∷ 1 ∷ 0 ∷ 2 ∷ 1 ∷ 1 ∷ 2 ∷ []) 3
      ∷ check (2 ∷ 97 ∷ 1 ∷ 0 ∷ 2 ∷ 32 ∷ 2 ∷ 0 ∷ []) 3
      ∷ check (2 ∷ 97 ∷ 1 ∷ 0 ∷ 2 ∷ 32 ∷ 0 ∷ 2 ∷ []) 3 ∷ [];
  expected = checked 86 0 ∷ checked 86 0 ∷ checked 86 0 ∷ checked 0 2 ∷ checked 86 0 ∷ checked 0 2 ∷ [];
}

-- Rules 3, 4, 5, 6 and 7, one after the other.
abbrev pub check_rules_3_to_7 : Case
check_rules_3_to_7 = record {
  start = [];
  calls =
      check (2 ∷ 1 ∷ 1 ∷ 1 ∷ []) 2
      ∷ check (2 ∷ 1 ∷ 1 ∷ 0 ∷ 2 ∷ 1 ∷ 2 ∷ 1 ∷ []) 3
      ∷ check (2 ∷ 1 ∷ 1 ∷ 0 ∷ 2 ∷ 1 ∷ 1 ∷ 2 ∷ []) 3
      ∷ check (2 ∷ 1 ∷ 1 ∷ 0 ∷ 3 ∷ 1 ∷ 2 ∷ 1 ∷ []) 3
      ∷ check (2 ∷ 1 ∷ 1 ∷ 0 ∷ 3 ∷ 1 ∷ 1 ∷ 2 ∷ []) 3 ∷ [];
  expected = checked 86 0 ∷ checked 86 0 ∷ checked 86 0 ∷ checked 86 0 ∷ checked 86 0 ∷ [];
}

-- Four numbers are compared. The right field before the left steps: S(3) = 1, then by no 3 = 2, and the other way round. The left steps before the right steps: 2 = S(1), then by no
-- S(2) = 1, and the other way round. Steps ascend: S(2) = 1, then by no S2(2) = 1, and the other way round; 2 = S(1), then by no 2 = S2(1), and the other way round.
abbrev pub check_order : Case
check_order = record {
  start = [];
  calls =
      check (3 ∷ 2 ∷ 1 ∷ 0 ∷ 35 ∷ 1 ∷ 1 ∷ 2 ∷ []) 3
      ∷ check (35 ∷ 1 ∷ 1 ∷ 0 ∷ 3 ∷ 2 ∷ 1 ∷ 2 ∷ []) 3
      ∷ check (34 ∷ 1 ∷ 1 ∷ 0 ∷ 2 ∷ 33 ∷ 1 ∷ 2 ∷ []) 3
      ∷ check (2 ∷ 33 ∷ 1 ∷ 0 ∷ 34 ∷ 1 ∷ 1 ∷ 2 ∷ []) 3
      ∷ check (66 ∷ 1 ∷ 1 ∷ 0 ∷ 34 ∷ 1 ∷ 1 ∷ 2 ∷ []) 3
      ∷ check (34 ∷ 1 ∷ 1 ∷ 0 ∷ 66 ∷ 1 ∷ 1 ∷ 2 ∷ []) 3
      ∷ check (2 ∷ 65 ∷ 1 ∷ 0 ∷ 2 ∷ 33 ∷ 1 ∷ 2 ∷ []) 3
      ∷ check (2 ∷ 33 ∷ 1 ∷ 0 ∷ 2 ∷ 65 ∷ 1 ∷ 2 ∷ []) 3 ∷ [];
  expected = checked 0 2 ∷ checked 86 0 ∷ checked 0 2 ∷ checked 86 0 ∷ checked 0 2 ∷ checked 86 0 ∷ checked 0 2 ∷ checked 86 0 ∷ [];
}

-- 4,096 steps on the right; field 17; the smaller field on the left; steps on both sides; steps on the left of a number; one field on both sides; 4,096 steps on the left.
-- 4,095 steps are allowed, on either side, and so are field 16 and field 1.
abbrev pub check_terms : Case
check_terms = record {
  start = [];
  calls =
      check (2 ∷ 131073 ∷ 1 ∷ 0 ∷ []) 2
      ∷ check (17 ∷ 1 ∷ 1 ∷ 0 ∷ []) 2
      ∷ check (1 ∷ 2 ∷ 1 ∷ 0 ∷ []) 2
      ∷ check (34 ∷ 33 ∷ 1 ∷ 0 ∷ []) 2
      ∷ check (33 ∷ 0 ∷ 1 ∷ 0 ∷ []) 2
      ∷ check (2 ∷ 2 ∷ 1 ∷ 0 ∷ []) 2
      ∷ check (131074 ∷ 1 ∷ 1 ∷ 0 ∷ []) 2
      ∷ check (2 ∷ 131041 ∷ 1 ∷ 0 ∷ []) 2
      ∷ check (16 ∷ 131055 ∷ 1 ∷ 0 ∷ []) 2
      ∷ check (131042 ∷ 1 ∷ 1 ∷ 0 ∷ []) 2
      ∷ check (1 ∷ 0 ∷ 1 ∷ 0 ∷ []) 2 ∷ [];
  expected =
      checked 82 0 ∷ checked 82 0 ∷ checked 82 0 ∷ checked 82 0 ∷ checked 82 0 ∷ checked 82 0 ∷ checked 82 0
      ∷ checked 0 2 ∷ checked 0 2 ∷ checked 0 2 ∷ checked 0 2 ∷ [];
}

-- A handle that is its entry's own, and one that is far above; such a handle before a term that is not simplified: terms are tested over the whole table first. Equal
-- entries, whichever is the root. An entry that no handle names, one above the root, and any entry, where the root is a leaf. A no handle that is its entry's own. Such
-- handles in equal entries and after them: handles are tested over the whole table first. Rule 3 applies, and a later entry is not reached: that is tested first.
abbrev pub check_handles : Case
check_handles = record {
  start = [];
  calls =
      check (2 ∷ 1 ∷ 2 ∷ 0 ∷ []) 2
      ∷ check (2 ∷ 1 ∷ 4294967295 ∷ 0 ∷ []) 2
      ∷ check (2 ∷ 1 ∷ 4294967295 ∷ 0 ∷ 2 ∷ 2 ∷ 1 ∷ 0 ∷ []) 3
      ∷ check (3 ∷ 2 ∷ 1 ∷ 0 ∷ 3 ∷ 2 ∷ 1 ∷ 0 ∷ []) 3
      ∷ check (3 ∷ 2 ∷ 1 ∷ 0 ∷ 3 ∷ 2 ∷ 1 ∷ 0 ∷ []) 2
      ∷ check (3 ∷ 2 ∷ 1 ∷ 0 ∷ 2 ∷ 1 ∷ 1 ∷ 0 ∷ []) 3
      ∷ check (3 ∷ 2 ∷ 1 ∷ 0 ∷ 2 ∷ 1 ∷ 2 ∷ 0 ∷ []) 2
      ∷ check (3 ∷ 2 ∷ 1 ∷ 0 ∷ []) 1
      ∷ check (2 ∷ 1 ∷ 1 ∷ 2 ∷ []) 2
      ∷ check (2 ∷ 1 ∷ 2 ∷ 0 ∷ 2 ∷ 1 ∷ 2 ∷ 0 ∷ []) 3
      ∷ check (3 ∷ 2 ∷ 1 ∷ 0 ∷ 3 ∷ 2 ∷ 1 ∷ 0 ∷ 2 ∷ 1 ∷ 4 ∷ 0 ∷ []) 4
      ∷ check (2 ∷ 1 ∷ 1 ∷ 1 ∷ 3 ∷ 1 ∷ 1 ∷ 0 ∷ []) 2 ∷ [];
  expected =
      checked 83 0 ∷ checked 83 0 ∷ checked 82 0 ∷ checked 84 0 ∷ checked 84 0 ∷ checked 85 0 ∷ checked 85 0 ∷ checked 85 0
      ∷ checked 83 0 ∷ checked 83 0 ∷ checked 83 0 ∷ checked 85 0 ∷ [];
}

-- Entries that differ in one word alone are not equal: the left term, the right term, the yes handle, the no handle.
abbrev pub check_differing_entries : Case
check_differing_entries = record {
  start = [];
  calls =
      check (3 ∷ 1 ∷ 1 ∷ 0 ∷ 4 ∷ 1 ∷ 1 ∷ 0 ∷ 2 ∷ 1 ∷ 2 ∷ 3 ∷ []) 4
      ∷ check (3 ∷ 1 ∷ 1 ∷ 0 ∷ 3 ∷ 2 ∷ 1 ∷ 0 ∷ 2 ∷ 1 ∷ 2 ∷ 3 ∷ []) 4
      ∷ check (4 ∷ 1 ∷ 1 ∷ 0 ∷ 3 ∷ 1 ∷ 1 ∷ 0 ∷ 3 ∷ 1 ∷ 2 ∷ 0 ∷ 2 ∷ 1 ∷ 3 ∷ 4 ∷ []) 5
      ∷ check (4 ∷ 1 ∷ 1 ∷ 0 ∷ 3 ∷ 1 ∷ 0 ∷ 1 ∷ 3 ∷ 1 ∷ 0 ∷ 2 ∷ 2 ∷ 1 ∷ 3 ∷ 4 ∷ []) 5 ∷ [];
  expected = checked 0 2 ∷ checked 0 2 ∷ checked 0 2 ∷ checked 0 2 ∷ [];
}

-- 4,096 entries are allowed, so that the first of them is looked at, and it is no question; 4,097 are not.
abbrev pub check_limits : Case
check_limits = record {
  start = [];
  calls = check (replicate 16384 0) 0 ∷ check (replicate 16388 0) 0 ∷ [];
  expected = checked 82 0 ∷ checked 81 0 ∷ [];
}

abbrev pub cases : List Case
cases =
    case_1 ∷ case_2 ∷ case_3 ∷ case_4 ∷ case_5_opened ∷ case_5_short
    ∷ cases_6_to_8 open_with build 0 ∷ cases_6_to_8 open_with build 1 ∷ cases_6_to_8 logger_open logger_build 0 ∷ cases_6_to_8 logger_open logger_build 1
    ∷ case_6_short ∷ case_9 ∷ case_11 ∷ case_11_built ∷ case_12
    ∷ steps_simplified ∷ steps_built ∷ steps_in_a_store ∷ steps_beyond_in_a_store
    ∷ check_shapes ∷ check_examples ∷ check_rule_8 ∷ check_rules_3_to_7 ∷ check_order ∷ check_terms ∷ check_handles
    ∷ check_differing_entries ∷ check_limits
    ∷ orders_opened ∷ orders_compared ∷ orders_refused ∷ openings_refused ∷ rules_fields_first ∷ rules_left_first ∷ unknown_order_refused
    ∷ (orders_in_a_store ++ logger_cases ++ raw_cases ++ blanks_cases)
