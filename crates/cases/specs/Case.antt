-- A case: calls one after the other on the words of one store, and what each must leave.
use Rattle.std.specs.Prelude.{ℕ, ◌≡◌, List, [], ◌∷◌, ℤ}
use Rattle.examples.specs.Example.{example_number}
use Rattle.examples.specs.Example as examples
use Rattle.examples.specs.LargestGap.{list_gap}
use Rattle.normal_form.specs.Check as normal_form
use Rattle.normal_form.specs.CheckAnswer.{checked_number, checked_result}
use Rattle.normal_form.specs.Limits.{table_limits}
use Rattle.operations.specs.Built.{Built, built_number, built_result}
use Rattle.operations.specs.Operations as operation
use Rattle.raw_lists.specs.OpenRaw as raw_lists
use Rattle.raw_lists.specs.RawOpened.{raw_number}
use Rattle.reading.specs.Read.{read_sheet, read_number, read_result}
use Rattle.store.specs.Opened.{Opened, open_number}
use Rattle.store.specs.Open.{open_store}
use Rattle.store.specs.Outcome as specs
use Rattle.terms.specs.declared.simplification.SimplifyAnswer.{SimplifyAnswer}
use Rattle.terms.specs.Limits.{term_limits, store_limits, logger_limits}
use Rattle.terms.specs.Simplify.{simplify_words, answer}
use Rattle.verdicts.specs.Verdict as verdicts
use Rattle.verdicts.specs.Verdict.{verdict_number, verdict_result}
use Rattle.writing.specs.WriteBack as writing
use Rattle.writing.specs.WriteBack.{written_number, written_result}

-- A call of a public operation with its arguments. The store is the words that the call before left.
pub data CaseCall : Type 0 where
  -- the two term words
  simplify : ℕ → ℕ → CaseCall
  -- n, the order and the list
  open_with : ℕ → ℕ → List ℕ → CaseCall
  -- n, the order and the raw list
  open_raw : ℕ → ℕ → List ℕ → CaseCall
  -- the words of a rule table
  build : List ℕ → CaseCall
  -- open and build by the logger, with the same arguments
  logger_open : ℕ → ℕ → List ℕ → CaseCall
  logger_build : List ℕ → CaseCall
  -- handles
  negate : ℕ → CaseCall
  join : ℕ → ℕ → CaseCall
  choose : ℕ → ℕ → ℕ → CaseCall
  -- a handle, and the sheet
  read : ℕ → List ℕ → CaseCall
  -- a handle, and the words lent for the rows
  write_back : ℕ → List ℕ → CaseCall
  -- a handle
  verdict : ℕ → CaseCall
  -- a handle, and the words lent for the sheet
  example : ℕ → List ℕ → CaseCall
  -- the words of a table of entries, and a root; the store has no part in it
  check : List ℕ → ℕ → CaseCall
  -- no call: what K of the store's list is
  ask_list_gap : CaseCall

-- What a call leaves: its answer, and every word lent to it.
pub data CaseOutcome : Type 0 where
  -- simplify's number, result, two words and gap
  simplified : ℕ → ℕ → ℕ → ℕ → ℤ → CaseOutcome
  -- number, result, the store's words, and the other words lent
  answered : ℕ → ℕ → List ℕ → List ℕ → CaseOutcome
  -- a check's number and result: nothing is lent to be written
  checked : ℕ → ℕ → CaseOutcome
  -- K
  gap_is : ℕ → CaseOutcome

abbrev simplified_as : SimplifyAnswer → CaseOutcome
simplified_as a = simplified a.number a.result a.left a.right a.gap

-- what an opening leaves, with the list
abbrev opened_as : specs.Outcome Opened → List ℕ → CaseOutcome
opened_as o list = answered (open_number o.answer) 0 o.words list

-- what a call that may add entries leaves, with the other words lent
abbrev built_as : specs.Outcome Built → List ℕ → CaseOutcome
built_as o lent = answered (built_number o.answer) (built_result o.answer) o.words lent

-- What the calls leave one after the other, each by the definition that its function's promise names.
abbrev pub outcomes : List ℕ → List CaseCall → List CaseOutcome
outcomes s [] = []
outcomes s (simplify l r ∷ calls) = simplified_as (answer (simplify_words term_limits l r)) ∷ outcomes s calls
outcomes s (open_with n order list ∷ calls) = let o = open_store store_limits n order list s in opened_as o list ∷ outcomes o.words calls
outcomes s (open_raw n order raw ∷ calls) =
    let o = raw_lists.open_raw store_limits n order raw s in
    answered (raw_number o.answer) 0 o.words raw ∷ outcomes o.words calls
outcomes s (build table ∷ calls) = let o = operation.build store_limits s table in built_as o table ∷ outcomes o.words calls
outcomes s (logger_open n order list ∷ calls) = let o = open_store logger_limits n order list s in opened_as o list ∷ outcomes o.words calls
outcomes s (logger_build table ∷ calls) = let o = operation.build logger_limits s table in built_as o table ∷ outcomes o.words calls
outcomes s (negate a ∷ calls) = let o = operation.negate store_limits s a in built_as o [] ∷ outcomes o.words calls
outcomes s (join a b ∷ calls) = let o = operation.join store_limits s a b in built_as o [] ∷ outcomes o.words calls
outcomes s (choose a b c ∷ calls) = let o = operation.choose store_limits s a b c in built_as o [] ∷ outcomes o.words calls
outcomes s (read handle sheet ∷ calls) =
    let r = read_sheet store_limits s handle sheet in
    answered (read_number r) (read_result r) s sheet ∷ outcomes s calls
outcomes s (write_back handle out ∷ calls) =
    let o = writing.write_back store_limits s handle out in
    answered (written_number o.answer) (written_result o.answer) s o.words ∷ outcomes s calls
outcomes s (verdict handle ∷ calls) =
    let v = verdicts.verdict store_limits s handle in
    answered (verdict_number v) (verdict_result v) s [] ∷ outcomes s calls
outcomes s (example handle out ∷ calls) =
    let o = examples.example store_limits s handle out in
    answered (example_number o.answer) 0 s o.words ∷ outcomes s calls
outcomes s (check table root ∷ calls) =
    let c = normal_form.check table_limits table root in
    checked (checked_number c) (checked_result c) ∷ outcomes s calls
outcomes s (ask_list_gap ∷ calls) = gap_is (list_gap s) ∷ outcomes s calls

-- A row of the table: the store's words at the start, the calls, and what each must leave.
pub record Case : Type 0 where
  pub start : List ℕ
  pub calls : List CaseCall
  pub expected : List CaseOutcome

abbrev pub CaseHolds : Case → Type 0
CaseHolds c = outcomes c.start c.calls ≡ c.expected

-- every row of a table
abbrev pub EachHolds : List Case → Type 0
EachHolds [] = Unit {0}
EachHolds (c ∷ cs) = CaseHolds c × EachHolds cs
