-- The handle laws (document 01, section of that name): the calls, the ledger beside the store, and the claim.
use Rattle.std.specs.Prelude.{ℕ, ◌≡◌, ◌↔◌, Bool, true, false, cond, not, ◌&&◌, List, [], ◌∷◌, eqb}
use Rattle.operations.specs.Built.{Built, if_built}
use Rattle.operations.specs.Operations as operation
use Rattle.store.specs.Meaning.{meaning}
use Rattle.store.specs.Open.{opened_words}
use Rattle.store.specs.Outcome.{Outcome}
use Rattle.tables.specs.Rows.{rule_meaning}
use Rattle.terms.specs.declared.limits.Limits.{Limits}
use Rattle.terms.specs.Meaning.{Valuation}

-- "The list holds build, negate, join and choose calls in any order", with any arguments
pub data Call : Type 0 where
  build : List ℕ → Call
  negate : ℕ → Call
  join : ℕ → ℕ → Call
  choose : ℕ → ℕ → ℕ → Call

-- A call on the words of a store: the very definition that its function's promise names.
abbrev pub answer_to : Limits → List ℕ → Call → Outcome Built
answer_to limits s (build table) = operation.build limits s table
answer_to limits s (negate a) = operation.negate limits s a
answer_to limits s (join a b) = operation.join limits s a b
answer_to limits s (choose a b c) = operation.choose limits s a b c

-- "A choice of counts gives each of the n fields a natural number.": a rule is a truth function of it
abbrev pub Rule : Type 0
Rule = Valuation → Bool

-- "a ledger of pairs, a handle and its rule", the latest first
pub record Pair : Type 0 where
  pub handle : ℕ
  pub rule : Rule

abbrev pub pair : ℕ → Rule → Pair
pair h r = record { handle = h; rule = r }

-- "It starts with the pairs 0, never and 1, always."
abbrev pub first_ledger : List Pair
first_ledger = pair 1 (λ _. true) ∷ pair 0 (λ _. false) ∷ []

-- "A given handle's rule is that of its latest pair. A handle in no pair, such as an inner entry's, has its meaning by the words lent to that
-- call."
unfoldable pub rule_of : List Pair → List ℕ → ℕ → Rule
rule_of [] s handle = meaning s handle
rule_of (p ∷ ps) s handle = cond (eqb p.handle handle) p.rule (rule_of ps s handle)

-- the rule of a call, by its arguments, the ledger and the words lent to it
abbrev pub rule_of_call : List Pair → List ℕ → Call → Rule
rule_of_call ps s (build table) = rule_meaning table
rule_of_call ps s (negate a) = λ v. not (rule_of ps s a v)
rule_of_call ps s (join a b) = λ v. rule_of ps s a v && rule_of ps s b v
rule_of_call ps s (choose a b c) = λ v. cond (rule_of ps s a v) (rule_of ps s b v) (rule_of ps s c v)

-- "An accepted build adds its result with its last row's rule. ... A refused call adds nothing."
abbrev pub enter : List Pair → Rule → Built → List Pair
enter ps r b = if_built b (λ h. pair h r ∷ ps) (λ f. ps)

-- the store's words and the ledger, side by side
pub record Books : Type 0 where
  pub words : List ℕ
  pub ledger : List Pair

-- any words, with the ledger at its start
abbrev pub first_books : List ℕ → Books
first_books s = record { words = s; ledger = first_ledger }

-- "It starts from a store that open has just accepted, with any n, list and length.", by document 02 (ix) with any order too: the books of such a
-- store
abbrev pub opened_books : ℕ → ℕ → List ℕ → ℕ → Books
opened_books n order list words = first_books (opened_words n order list words)

-- one call: the ledger "is fed each call's arguments, the lent store among them, and the call's answer"
abbrev pub after : Limits → Books → Call → Books
after limits b c =
    let o = answer_to limits b.words c in
    record { words = o.words; ledger = enter b.ledger (rule_of_call b.ledger b.words c) o.answer }

-- the whole list of calls, in turn
unfoldable pub run : Limits → Books → List Call → Books
run limits b [] = b
run limits b (c ∷ cs) = run limits (after limits b c) cs

-- a pair stands in a ledger
pub data In (p : Pair) : List Pair → Type 0 where
  newest : {ps : List Pair} → In p (p ∷ ps)
  older : {x : Pair} {ps : List Pair} → In p ps → In p (x ∷ ps)

-- "After the list, any two pairs have equal handles exactly if their rules are alike in truth under every choice of counts."
abbrev pub HandleLaw : List Pair → Type 0
HandleLaw ps = (p q : Pair) → In p ps → In q ps → (p.handle ≡ q.handle) ↔ ((v : Valuation) → p.rule v ≡ q.rule v)
