-- What holds after an opening in either order and any calls holds after an opening with a raw list: its books are those of open with the resulting list.
use Prim.Native.Nat.{ℕ}
use mathlib.Core.Path.{◌≡◌, sym, ap, subst}
use mathlib.Core.Bool.{true}
use mathlib.Core.List.{List}
use lib.ListN.{length}
use Rattle.examples.specs.Example.{example}
use Rattle.examples.specs.ExampleAnswers.{ExampleAnswers}
use Rattle.operations.specs.Handles.{Call, Pair, Books, first_books, opened_books, run, In}
use Rattle.std.specs.Prelude.{Ok}
use Rattle.raw_lists.specs.OpenRaw.{resulting_list, open_raw}
use Rattle.reading.specs.Read.{read_sheet}
use Rattle.reading.specs.ReadExactly.{ReadExactly}
use Rattle.runs.specs.InOrder.{InOrder}
use Rattle.runs.specs.SheetOrNone.{SheetOrNone}
use Rattle.runs.specs.RuleExample.{RuleExample}
use Rattle.store.specs.Layout.{is_handle}
use Rattle.store.specs.Meaning.{meaning}
use Rattle.store.specs.Open.{opening}
use Rattle.terms.specs.declared.limits.Limits.{Limits}
use Rattle.terms.specs.declared.order.ListOrder.{ListOrder}
use Rattle.terms.specs.Order.{order_number}
use Rattle.verdicts.specs.Verdict.{verdict}
use Rattle.verdicts.specs.VerdictSays.{VerdictSays}
use Rattle.raw_lists.proofs.RawOpens.{opens_in_order, opened_in_order}
use Rattle.runs.proofs.RunInOrder.{run_in_order, verdict_in_order, example_in_order, example_answered, verdict_of_rule, read_of_rule, example_of_rule}

module _ (limits : Limits) (order : ListOrder) (n : ℕ) (raw s : List ℕ) (e : (open_raw limits n (order_number order) raw s).answer ≡ Ok tt) (calls : List Call) where
  abbrev list : List ℕ
  list = resulting_list order raw

  -- the books after the opening and the calls
  abbrev books : Books
  books = run limits (first_books (open_raw limits n (order_number order) raw s).words) calls

  opens : opening limits n (order_number order) list (length s) ≡ Ok tt
  opens = opens_in_order limits order n raw s e

  -- what holds of the books after open with the resulting list
  carried : (holds : Books → Type 0) → holds (run limits (opened_books n (order_number order) list (length s)) calls) → holds books
  carried holds = subst holds (ap (λ words. run limits (first_books words) calls) (sym (opened_in_order limits order n raw s e)))

  pub raw_in_order : InOrder limits order n books
  raw_in_order = carried (InOrder limits order n) (run_in_order limits order n list s opens calls)

  -- ---- any handle of the store's
  pub raw_verdict_in_order : (handle : ℕ) → is_handle books.words handle ≡ true → VerdictSays (verdict limits books.words handle) (meaning books.words handle)
  raw_verdict_in_order handle =
      carried (λ b. is_handle b.words handle ≡ true → VerdictSays (verdict limits b.words handle) (meaning b.words handle))
      (verdict_in_order limits order n list s opens calls handle)

  pub raw_example_in_order : (handle : ℕ) (out : List ℕ) → ExampleAnswers books.words handle out (example limits books.words handle out)
  raw_example_in_order handle out =
      carried (λ b. ExampleAnswers b.words handle out (example limits b.words handle out)) (example_in_order limits order n list s opens calls handle out)

  -- with n words lent, a handle of the store's gets a sheet or 52
  pub raw_example_answered : (handle : ℕ) (out : List ℕ) → is_handle books.words handle ≡ true → length out ≡ n → SheetOrNone (example limits books.words handle out)
  raw_example_answered handle out =
      carried (λ b. is_handle b.words handle ≡ true → length out ≡ n → SheetOrNone (example limits b.words handle out))
      (example_answered limits order n list s opens calls handle out)

  -- ---- a rule of the ledger's
  module _ (p : Pair) where
    pub raw_verdict_of_rule : In p books.ledger → VerdictSays (verdict limits books.words p.handle) p.rule
    raw_verdict_of_rule = carried (λ b. In p b.ledger → VerdictSays (verdict limits b.words p.handle) p.rule) (verdict_of_rule limits order n list s opens calls p)

    pub raw_read_of_rule : In p books.ledger → (sheet : List ℕ) → length sheet ≡ n → ReadExactly sheet p.rule (read_sheet limits books.words p.handle sheet)
    raw_read_of_rule =
        carried (λ b. In p b.ledger → (sheet : List ℕ) → length sheet ≡ n → ReadExactly sheet p.rule (read_sheet limits b.words p.handle sheet))
        (read_of_rule limits order n list s opens calls p)

    pub raw_example_of_rule : In p books.ledger → (out : List ℕ) → length out ≡ n → RuleExample n p.rule (example limits books.words p.handle out)
    raw_example_of_rule =
        carried (λ b. In p b.ledger → (out : List ℕ) → length out ≡ n → RuleExample n p.rule (example limits b.words p.handle out))
        (example_of_rule limits order n list s opens calls p)
