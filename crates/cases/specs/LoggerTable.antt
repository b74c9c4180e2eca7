-- Document 02 (xi): the logger's open and build at their limits and one beyond, beside the institute's on the same words.
use Rattle.std.specs.Prelude.{ℕ, zero, suc, ◌*◌, cond, List, [], ◌∷◌, ◌++◌, eqb, take, replicate}
use Rattle.cases.specs.Case.{open_with, build, logger_open, logger_build, answered, Case}

-- n = 7 is 11, with any order; n = 6 with an empty list is accepted, and with another order it is 18. For the institute n = 7 is no fault.
abbrev logger_opens_fields : Case
logger_opens_fields =
    let s : List ℕ = replicate 4 9 in
    let opened : List ℕ = 6 ∷ 0 ∷ 0 ∷ 0 ∷ [] in
    record {
      start = s;
      calls = logger_open 7 0 [] ∷ logger_open 7 2 [] ∷ logger_open 6 2 [] ∷ logger_open 6 0 [] ∷ open_with 7 0 [] ∷ [];
      expected = answered 11 0 s [] ∷ answered 11 0 s [] ∷ answered 18 0 s [] ∷ answered 0 0 opened [] ∷ answered 0 0 (7 ∷ 0 ∷ 0 ∷ 0 ∷ []) [] ∷ [];
    }

-- n = 1, the questions 1 = 0, 1 = S(0), .., 1 = S7(0), and with 1 = S8(0) nine of them
abbrev eight_questions : List ℕ
eight_questions = 1 ∷ 0 ∷ 1 ∷ 32 ∷ 1 ∷ 64 ∷ 1 ∷ 96 ∷ 1 ∷ 128 ∷ 1 ∷ 160 ∷ 1 ∷ 192 ∷ 1 ∷ 224 ∷ []

abbrev nine_questions : List ℕ
nine_questions = eight_questions ++ 1 ∷ 256 ∷ []

-- Nine questions are 13, before any fault of theirs or of the length, and an odd number of words is 12 before that; eight are accepted on 20 words, and on 19 they
-- are 21. Within the limits the faults of a question are the institute's: field 2 and 1,024 steps are 14, S(1) = S(0) is 15, and the first question once more is 16.
abbrev logger_opens_questions : Case
logger_opens_questions =
    let s : List ℕ = replicate 20 9 in
    let odd : List ℕ = nine_questions ++ 1 ∷ [] in
    let field_2 : List ℕ = 2 ∷ 0 ∷ [] in
    let steps_1024 : List ℕ = 1 ∷ 32768 ∷ [] in
    let raised : List ℕ = 33 ∷ 32 ∷ [] in
    let again : List ℕ = 1 ∷ 0 ∷ 1 ∷ 0 ∷ [] in
    record {
      start = s;
      calls =
          logger_open 1 0 odd ∷ logger_open 1 0 nine_questions ∷ logger_open 1 0 (replicate 18 9) ∷ logger_open 1 0 field_2 ∷ logger_open 1 0 steps_1024 ∷ logger_open 1 0 raised
          ∷ logger_open 1 0 again ∷ logger_open 1 0 eight_questions ∷ [];
      expected =
          answered 12 0 s odd ∷ answered 13 0 s nine_questions ∷ answered 13 0 s (replicate 18 9) ∷ answered 14 0 s field_2 ∷ answered 14 0 s steps_1024 ∷ answered 15 0 s raised
          ∷ answered 16 0 s again ∷ answered 0 0 (1 ∷ 8 ∷ 0 ∷ 0 ∷ eight_questions) eight_questions ∷ [];
    }

abbrev logger_opens_short : Case
logger_opens_short =
    let s : List ℕ = replicate 19 9 in
    record { start = s; calls = logger_open 1 0 eight_questions ∷ []; expected = answered 21 0 s eight_questions ∷ [] }

-- n = 6 and 6 = S1023(0), 9 words: both of these limits are reached, and the rule is handle 2. S(6) = S1024(0), which would simplify to it, is 35.
abbrev logger_steps : Case
logger_steps =
    let list : List ℕ = 6 ∷ 32736 ∷ [] in
    let beyond : List ℕ = 2 ∷ 38 ∷ 32768 ∷ 0 ∷ [] in
    let rule : List ℕ = 2 ∷ 6 ∷ 32736 ∷ 0 ∷ [] in
    let s : List ℕ = 6 ∷ 1 ∷ 0 ∷ 0 ∷ 6 ∷ 32736 ∷ 0 ∷ 0 ∷ 0 ∷ [] in
    record {
      start = replicate 9 9;
      calls = logger_open 6 0 list ∷ logger_build beyond ∷ logger_build rule ∷ [];
      expected = answered 0 0 s list ∷ answered 35 0 s beyond ∷ answered 0 2 (6 ∷ 1 ∷ 1 ∷ 0 ∷ 6 ∷ 32736 ∷ 1 ∷ 1 ∷ 0 ∷ []) rule ∷ [];
    }

-- A sound store beyond the logger's limits: the rule always is 22 by the logger's build and handle 1 by the institute's, and a rule of no words is 22 by the one
-- and 31 by the other.
abbrev beyond_limits : List ℕ → Case
beyond_limits s =
    let always : List ℕ = 1 ∷ 0 ∷ 0 ∷ 0 ∷ [] in
    record {
      start = s;
      calls = logger_build always ∷ logger_build [] ∷ build always ∷ build [] ∷ [];
      expected = answered 22 0 s always ∷ answered 22 0 s [] ∷ answered 0 1 s always ∷ answered 31 0 s [] ∷ [];
    }

-- ---- 200 entries
-- the entries of a question with this yes handle and each other no handle below a number, and with each yes handle below a number
abbrev entries_with : ℕ → ℕ → ℕ → List ℕ
entries_with question y zero = []
entries_with question y (suc n) = cond (eqb y n) (entries_with question y n) (question ∷ y ∷ n ∷ entries_with question y n)

abbrev entries_below : ℕ → ℕ → ℕ → List ℕ
entries_below question zero handles = []
entries_below question (suc y) handles = entries_with question y handles ++ entries_below question y handles

-- The first so many of two entries of question 8 over the leaves, twelve of question 7 over four handles and 240 of question 6 over sixteen, and the words after them,
-- in a store that says how many entries it has. It is sound, and its diagrams are not finished ones.
abbrev many_entries : ℕ → ℕ → List ℕ → List ℕ
many_entries count entries rest =
    1 ∷ 8 ∷ entries ∷ 0 ∷ (eight_questions ++ take (3 * count) (entries_below 8 2 2 ++ entries_below 7 4 4 ++ entries_below 6 16 16) ++ rest)

-- With 199 entries the rule 1 = 0 takes the last one that the logger has, 1 1 0, and has handle 201; built again it takes none, nor does a leaf. Not 1 = 0, which takes
-- the entry 1 0 1, is 51 by the logger, though there are words for it, and handle 202 by the institute's build. Then the store has 201 entries, and is 22 for the logger.
abbrev logger_full : Case
logger_full =
    let first : List ℕ = 2 ∷ 1 ∷ 0 ∷ 0 ∷ [] in
    let second : List ℕ = 2 ∷ 1 ∷ 0 ∷ 0 ∷ 3 ∷ 0 ∷ 0 ∷ 0 ∷ [] in
    let always : List ℕ = 1 ∷ 0 ∷ 0 ∷ 0 ∷ [] in
    let s : List ℕ = many_entries 199 200 (1 ∷ 1 ∷ 0 ∷ replicate 3 0) in
    let t : List ℕ = many_entries 199 201 (1 ∷ 1 ∷ 0 ∷ 1 ∷ 0 ∷ 1 ∷ []) in
    record {
      start = many_entries 199 199 (replicate 6 0);
      calls = logger_build first ∷ logger_build first ∷ logger_build second ∷ logger_build always ∷ build second ∷ logger_build always ∷ [];
      expected =
          answered 0 201 s first ∷ answered 0 201 s first ∷ answered 51 0 s second ∷ answered 0 1 s always ∷ answered 0 202 t second ∷ answered 22 0 t always ∷ [];
    }

abbrev pub logger_cases : List Case
logger_cases =
    logger_opens_fields ∷ logger_opens_questions ∷ logger_opens_short ∷ logger_steps
    ∷ beyond_limits (7 ∷ 0 ∷ 0 ∷ 0 ∷ []) ∷ beyond_limits (1 ∷ 9 ∷ 0 ∷ 0 ∷ nine_questions) ∷ beyond_limits (many_entries 201 201 []) ∷ logger_full ∷ []
