-- Document 02 (i): opening with a list of equations as they come.
use Rattle.std.specs.Prelude.{ℕ, zero, suc, ◌+◌, ◌*◌, List, [], ◌∷◌, ◌++◌, replicate}
use Rattle.operations.specs.ThreeEqual.{three_equal, three_equal_raw, last_equal, outer_equal, not_outer, after_case_6}
use Rattle.cases.specs.Case.{open_with, open_raw, build, answered, Case}

-- n = 3, order 0: 1 = 2, S(3) = S(1), 2 = 3, 2 = 1, 1 = 1, S(2) = 0 on 22 words leave what open leaves for 2 = 1, 3 = 1, 3 = 2; then cases 6 to 8 are as before.
abbrev raw_cases_6_to_8 : Case
raw_cases_6_to_8 =
    let s = after_case_6 0 in
    record {
      start = replicate 22 7;
      calls = open_raw 3 0 three_equal_raw ∷ build last_equal ∷ build outer_equal ∷ build not_outer ∷ [];
      expected =
          answered 0 0 (3 ∷ 3 ∷ 0 ∷ 0 ∷ (three_equal ++ replicate 12 0)) three_equal_raw
          ∷ answered 0 5 s last_equal ∷ answered 0 2 s outer_equal ∷ answered 0 0 s not_outer ∷ [];
    }

-- n = 3, 3 = 2 and 1 = S(3) on 8 words, sorted into the order that is given.
abbrev raw_orders : Case
raw_orders =
    let raw : List ℕ = 3 ∷ 2 ∷ 1 ∷ 35 ∷ [] in
    record {
      start = replicate 8 7;
      calls = open_raw 3 0 raw ∷ open_raw 3 1 raw ∷ [];
      expected = answered 0 0 (3 ∷ 2 ∷ 0 ∷ 0 ∷ 35 ∷ 1 ∷ 3 ∷ 2 ∷ []) raw ∷ answered 0 0 (3 ∷ 2 ∷ 0 ∷ 1 ∷ 3 ∷ 2 ∷ 35 ∷ 1 ∷ []) raw ∷ [];
    }

-- n = 4, the eight questions of `orders_compared`, each once from the last to the first and turned round, then each once more with three steps more on both sides: in
-- either order open's words.
abbrev raw_sorted : Case
raw_sorted =
    let raw : List ℕ =
    1 ∷ 4 ∷ 34 ∷ 3 ∷ 2 ∷ 3 ∷ 1 ∷ 35 ∷ 33 ∷ 3 ∷ 1 ∷ 3 ∷ 1 ∷ 34 ∷ 1 ∷ 2
    ∷ 98 ∷ 97 ∷ 130 ∷ 97 ∷ 99 ∷ 97 ∷ 99 ∷ 129 ∷ 131 ∷ 97 ∷ 99 ∷ 98 ∷ 99 ∷ 130 ∷ 100 ∷ 97 ∷ [] in
    let first : List ℕ = 2 ∷ 1 ∷ 34 ∷ 1 ∷ 3 ∷ 1 ∷ 3 ∷ 33 ∷ 35 ∷ 1 ∷ 3 ∷ 2 ∷ 3 ∷ 34 ∷ 4 ∷ 1 ∷ [] in
    let second : List ℕ = 2 ∷ 1 ∷ 34 ∷ 1 ∷ 3 ∷ 1 ∷ 3 ∷ 33 ∷ 3 ∷ 2 ∷ 3 ∷ 34 ∷ 35 ∷ 1 ∷ 4 ∷ 1 ∷ [] in
    record {
      start = replicate 20 7;
      calls = open_raw 4 0 raw ∷ open_raw 4 1 raw ∷ open_raw 4 1 first ∷ open_raw 4 0 second ∷ [];
      expected =
          answered 0 0 (4 ∷ 8 ∷ 0 ∷ 0 ∷ first) raw ∷ answered 0 0 (4 ∷ 8 ∷ 0 ∷ 1 ∷ second) raw
          ∷ answered 0 0 (4 ∷ 8 ∷ 0 ∷ 1 ∷ second) first ∷ answered 0 0 (4 ∷ 8 ∷ 0 ∷ 0 ∷ first) second ∷ [];
    }

-- n = 3, 1 = 2 and 2 = 1 are one question, and count once: opened on 6 words, and 21 on 5. Open refuses the list with 15.
abbrev turned_double : List ℕ
turned_double = 1 ∷ 2 ∷ 2 ∷ 1 ∷ []

abbrev raw_doubles : Case
raw_doubles =
    let s : List ℕ = replicate 6 7 in
    record {
      start = s;
      calls = open_with 3 0 turned_double ∷ open_raw 3 0 turned_double ∷ [];
      expected = answered 15 0 s turned_double ∷ answered 0 0 (3 ∷ 1 ∷ 0 ∷ 0 ∷ 2 ∷ 1 ∷ []) turned_double ∷ [];
    }

abbrev raw_doubles_short : Case
raw_doubles_short =
    let s : List ℕ = replicate 5 7 in
    record { start = s; calls = open_raw 3 0 turned_double ∷ []; expected = answered 21 0 s turned_double ∷ [] }

-- n = 1, 4 words. The test of 14 is on the raw terms: S1024(1) = S1024(1) and 2 = 2 are 14, though they are always. S1023(1) = S1023(1) is always, S(1) = 0 and S(1) = 1 are never,
-- and 64 times 1 = 1 is as many as may be: nothing remains, and a list of no questions is a list too.
abbrev raw_dropped : Case
raw_dropped =
    let s : List ℕ = replicate 4 7 in
    let opened : List ℕ = 1 ∷ 0 ∷ 0 ∷ 0 ∷ [] in
    let steps_1024 : List ℕ = 32769 ∷ 32769 ∷ [] in
    let field_2 : List ℕ = 2 ∷ 2 ∷ [] in
    let always : List ℕ = 32737 ∷ 32737 ∷ [] in
    let never : List ℕ = 33 ∷ 0 ∷ 33 ∷ 1 ∷ [] in
    record {
      start = s;
      calls = open_raw 1 0 steps_1024 ∷ open_raw 1 0 field_2 ∷ open_raw 1 0 always ∷ open_raw 1 1 never ∷ open_raw 1 0 (replicate 128 1) ∷ open_raw 1 1 [] ∷ [];
      expected =
          answered 14 0 s steps_1024 ∷ answered 14 0 s field_2 ∷ answered 0 0 opened always ∷ answered 0 0 (1 ∷ 0 ∷ 0 ∷ 1 ∷ []) never ∷ answered 0 0 opened (replicate 128 1)
          ∷ answered 0 0 (1 ∷ 0 ∷ 0 ∷ 1 ∷ []) [] ∷ [];
    }

-- so many questions 1 = S^k(0), from k on
abbrev counting : ℕ → ℕ → List ℕ
counting k zero = []
counting k (suc left) = 1 ∷ 32 * k ∷ counting (k + 1) left

-- A store of three words, so that 21 comes last: 17 fields, another order, one word; 131 words, 130 words; 64 equations of a field above n; 21 questions with such a field at the end,
-- 21 questions, and 20 questions; a field above n on the right.
abbrev raw_refused_in_turn : Case
raw_refused_in_turn =
    let s : List ℕ = replicate 3 7 in
    let bad_last : List ℕ = counting 0 21 ++ 2 ∷ 1 ∷ [] in
    let bad_right : List ℕ = 1 ∷ 0 ∷ 1 ∷ 2 ∷ [] in
    record {
      start = s;
      calls =
          open_raw 17 2 (1 ∷ []) ∷ open_raw 3 2 (1 ∷ []) ∷ open_raw 3 0 (1 ∷ []) ∷ open_raw 3 1 (replicate 131 9) ∷ open_raw 3 1 (replicate 130 9) ∷ open_raw 3 1 (replicate 128 9)
          ∷ open_raw 1 0 bad_last ∷ open_raw 1 0 (counting 0 21) ∷ open_raw 1 0 (counting 0 20) ∷ open_raw 1 0 bad_right ∷ [];
      expected =
          answered 11 0 s (1 ∷ []) ∷ answered 18 0 s (1 ∷ []) ∷ answered 12 0 s (1 ∷ []) ∷ answered 12 0 s (replicate 131 9) ∷ answered 17 0 s (replicate 130 9) ∷ answered 14 0 s (replicate 128 9)
          ∷ answered 14 0 s bad_last ∷ answered 13 0 s (counting 0 21) ∷ answered 21 0 s (counting 0 20) ∷ answered 14 0 s bad_right ∷ [];
    }

-- A store of three words. Each term is tested as it comes, whatever remains of its equation: with n = 2 S1024(2) = S(1), which either way round would leave S1023(2) = 1, is 14; with n = 1
-- S1024(1) = 0 and S(2) = 0, which are never, either way round, and 2 = 2 between two questions. 65 equations are 17, all different, or all always but the last, which is never.
abbrev raw_terms : Case
raw_terms =
    let s : List ℕ = replicate 3 7 in
    let between : List ℕ = 1 ∷ 0 ∷ 2 ∷ 2 ∷ 1 ∷ 32 ∷ [] in
    let dropped : List ℕ = replicate 128 1 ++ 33 ∷ 0 ∷ [] in
    record {
      start = s;
      calls =
          open_raw 2 0 (32770 ∷ 33 ∷ []) ∷ open_raw 2 0 (33 ∷ 32770 ∷ []) ∷ open_raw 1 0 (32769 ∷ 0 ∷ []) ∷ open_raw 1 0 (0 ∷ 32769 ∷ []) ∷ open_raw 1 0 (34 ∷ 0 ∷ [])
          ∷ open_raw 1 0 (0 ∷ 34 ∷ []) ∷ open_raw 1 0 between ∷ open_raw 1 0 (counting 0 65) ∷ open_raw 1 0 dropped ∷ [];
      expected =
          answered 14 0 s (32770 ∷ 33 ∷ []) ∷ answered 14 0 s (33 ∷ 32770 ∷ []) ∷ answered 14 0 s (32769 ∷ 0 ∷ []) ∷ answered 14 0 s (0 ∷ 32769 ∷ []) ∷ answered 14 0 s (34 ∷ 0 ∷ [])
          ∷ answered 14 0 s (0 ∷ 34 ∷ []) ∷ answered 14 0 s between ∷ answered 17 0 s (counting 0 65) ∷ answered 17 0 s dropped ∷ [];
    }

-- n = 1, 64 equations among which there are 20 different questions, each three times, on 44 words.
abbrev raw_many : Case
raw_many =
    let raw : List ℕ = counting 10 10 ++ counting 0 20 ++ counting 5 15 ++ replicate 8 1 ++ counting 0 10 ++ counting 0 5 in
    record {
      start = replicate 44 7;
      calls = open_raw 1 0 raw ∷ [];
      expected = answered 0 0 (1 ∷ 20 ∷ 0 ∷ 0 ∷ counting 0 20) raw ∷ [];
    }

abbrev pub raw_cases : List Case
raw_cases = raw_cases_6_to_8 ∷ raw_orders ∷ raw_sorted ∷ raw_doubles ∷ raw_doubles_short ∷ raw_dropped ∷ raw_refused_in_turn ∷ raw_terms ∷ raw_many ∷ []
