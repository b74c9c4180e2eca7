-- Document 02 (iii): sheets on which some fields were not counted.
use Rattle.std.specs.Prelude.{ℕ, List, [], ◌∷◌, ◌++◌, replicate}
use Rattle.operations.specs.ThreeEqual.{three_equal}
use Rattle.cases.specs.Case.{CaseCall, CaseOutcome, Case, open_with, build, read, verdict, answered}

-- "65,535 ... means 'not counted'"
abbrev not_counted : ℕ
not_counted = 65535

-- a sheet, and the result that reading it must have
pub record ReadSheet : Type 0 where
  pub sheet : List ℕ
  pub result : ℕ

abbrev reads_as : List ℕ → ℕ → ReadSheet
reads_as sheet result = record { sheet = sheet; result = result }

abbrev calls_of : ℕ → List ReadSheet → List CaseCall
calls_of handle [] = []
calls_of handle (r ∷ rs) = read handle r.sheet ∷ calls_of handle rs

abbrev outcomes_of : List ℕ → List ReadSheet → List CaseOutcome
outcomes_of s [] = []
outcomes_of s (r ∷ rs) = answered 0 r.result s r.sheet ∷ outcomes_of s rs

-- sheets read one after the other against a handle of a store
abbrev readings : List ℕ → ℕ → List ReadSheet → Case
readings s handle rs = record { start = s; calls = calls_of handle rs; expected = outcomes_of s rs }

-- n = 2 and 2 = S3(1), which is handle 2
abbrev three_more : List ℕ
three_more = 2 ∷ 1 ∷ 1 ∷ 0 ∷ 2 ∷ 97 ∷ 1 ∷ 1 ∷ 0 ∷ []

-- With 65,534 in field 1, field 2 may be 65,537, which is no number of 16 bits, and with 65,532 it may be 65,535. Field 2 is never 0, 1 or 2. With 65,534 in field 2, field 1 may
-- be 65,531.
abbrev blanks_at_the_edge : Case
blanks_at_the_edge =
    let sheets : List ReadSheet =
    reads_as (65534 ∷ not_counted ∷ []) 2 ∷ reads_as (not_counted ∷ 2 ∷ []) 0 ∷ reads_as (not_counted ∷ 3 ∷ []) 2 ∷ reads_as (not_counted ∷ not_counted ∷ []) 2
    ∷ reads_as (0 ∷ 3 ∷ []) 1 ∷ reads_as (0 ∷ 4 ∷ []) 0 ∷ reads_as (not_counted ∷ 65534 ∷ []) 2 ∷ reads_as (65534 ∷ 65534 ∷ []) 0
    ∷ reads_as (65532 ∷ not_counted ∷ []) 2 ∷ [] in
    readings three_more 2 sheets

-- The same with a third field, which no question names: two counts may settle the rule beside its blank, and one beside two. In the older order too.
abbrev blanks_beside_counts : List Case
blanks_beside_counts =
    let sheets : List ReadSheet =
    reads_as (0 ∷ 3 ∷ not_counted ∷ []) 1 ∷ reads_as (0 ∷ 4 ∷ not_counted ∷ []) 0 ∷ reads_as (not_counted ∷ 2 ∷ not_counted ∷ []) 0
    ∷ reads_as (0 ∷ not_counted ∷ 3 ∷ []) 2 ∷ [] in
    let in_order : ℕ → Case = λ order. readings (3 ∷ 1 ∷ 1 ∷ order ∷ 2 ∷ 97 ∷ 1 ∷ 1 ∷ 0 ∷ []) 2 sheets in
    in_order 0 ∷ in_order 1 ∷ []

-- Handle 1 is satisfied by every filling of every sheet, handle 0 by none.
abbrev blanks_and_leaves : List Case
blanks_and_leaves =
    let sheets : ℕ → List ReadSheet = λ b. reads_as (65534 ∷ not_counted ∷ []) b ∷ reads_as (not_counted ∷ not_counted ∷ []) b ∷ reads_as (0 ∷ 4 ∷ []) b ∷ [] in
    readings three_more 1 (sheets 1) ∷ readings three_more 0 (sheets 0) ∷ readings (replicate 4 0) 1 (reads_as [] 1 ∷ []) ∷ readings (replicate 4 0) 0 (reads_as [] 0 ∷ []) ∷ []

-- Case 11's store: neither 0 nor 1. A blank may be 0, where 65,534 may not.
abbrev blanks_of_case_11 : Case
blanks_of_case_11 = readings (1 ∷ 2 ∷ 2 ∷ 0 ∷ 1 ∷ 0 ∷ 1 ∷ 32 ∷ 2 ∷ 0 ∷ 1 ∷ 1 ∷ 0 ∷ 2 ∷ []) 3 (reads_as (not_counted ∷ []) 2 ∷ reads_as (65534 ∷ []) 1 ∷ [])

-- A store that is not finished: "if 2 = 1 then if 3 = 1 then 3 = 2 else yes else yes", which is always by meaning, though a path leads to never.
abbrev blanks_unfinished : Case
blanks_unfinished =
    let s : List ℕ = 3 ∷ 3 ∷ 3 ∷ 0 ∷ 2 ∷ 1 ∷ 3 ∷ 1 ∷ 3 ∷ 2 ∷ 3 ∷ 1 ∷ 0 ∷ 2 ∷ 2 ∷ 1 ∷ 1 ∷ 3 ∷ 1 ∷ [] in
    readings s 4 (reads_as (replicate 3 not_counted) 1 ∷ reads_as (5 ∷ 5 ∷ not_counted ∷ []) 1 ∷ reads_as (not_counted ∷ 5 ∷ 5 ∷ []) 1 ∷ [])

-- "3 = 2 and 3 = 1" built on case 6's list, 16 words, is handle 3. Two blanks are two numbers, and no number is both 7 and 8.
abbrev blanks_joined : Case
blanks_joined =
    let rule : List ℕ = 2 ∷ 3 ∷ 2 ∷ 0 ∷ 2 ∷ 3 ∷ 1 ∷ 0 ∷ 4 ∷ 0 ∷ 1 ∷ 0 ∷ [] in
    let s : List ℕ = 3 ∷ 3 ∷ 2 ∷ 0 ∷ 2 ∷ 1 ∷ 3 ∷ 1 ∷ 3 ∷ 2 ∷ 2 ∷ 1 ∷ 0 ∷ 1 ∷ 2 ∷ 0 ∷ [] in
    let sheets : List ReadSheet =
    reads_as (7 ∷ 8 ∷ not_counted ∷ []) 0 ∷ reads_as (7 ∷ 7 ∷ not_counted ∷ []) 2 ∷ reads_as (not_counted ∷ 8 ∷ 7 ∷ []) 0 ∷ reads_as (7 ∷ not_counted ∷ 7 ∷ []) 2
    ∷ reads_as (not_counted ∷ not_counted ∷ 7 ∷ []) 2 ∷ reads_as (7 ∷ 7 ∷ 7 ∷ []) 1 ∷ reads_as (replicate 3 not_counted) 2 ∷ [] in
    record {
      start = replicate 16 7;
      calls = open_with 3 0 three_equal ∷ build rule ∷ calls_of 3 sheets;
      expected = answered 0 0 (3 ∷ 3 ∷ 0 ∷ 0 ∷ 2 ∷ 1 ∷ 3 ∷ 1 ∷ 3 ∷ 2 ∷ replicate 6 0) three_equal ∷ answered 0 3 s rule ∷ outcomes_of s sheets;
    }

-- "Errors don't change.": blanks are no fault of their own, and a sheet of the wrong length is 23 though all its counts are blank; 41 comes before it, and 22 before both.
abbrev blanks_refused : List Case
blanks_refused =
    let short : List ℕ = not_counted ∷ [] in
    let long : List ℕ = replicate 3 not_counted in
    let broken : List ℕ = 2 ∷ 1 ∷ 1 ∷ 0 ∷ 2 ∷ 97 ∷ 1 ∷ 1 ∷ 1 ∷ [] in
    record {
      start = three_more;
      calls = read 2 short ∷ read 2 long ∷ read 2 [] ∷ read 3 short ∷ verdict 2 ∷ [];
      expected =
          answered 23 0 three_more short ∷ answered 23 0 three_more long ∷ answered 23 0 three_more [] ∷ answered 41 0 three_more short ∷ answered 0 2 three_more [] ∷ [];
    }
    ∷ record { start = broken; calls = read 3 short ∷ []; expected = answered 22 0 broken short ∷ [] } ∷ []

abbrev pub blanks_cases : List Case
blanks_cases = blanks_at_the_edge ∷ blanks_of_case_11 ∷ blanks_unfinished ∷ blanks_joined ∷ (blanks_beside_counts ++ blanks_and_leaves ++ blanks_refused)
