-- Where the facts force every question of the list, no value is open: a handle asks questions of the list only, an equation of an accepted table has one
-- truth wherever the list is answered alike, and Kleene's truth tables make known of known.
use Prim.Native.Nat.{ℕ, zero, suc, ◌-◌, ◌≤◌, ◌<◌, ◌+◌}
use mathlib.Core.Path.{◌≡◌, sym, ◌∙◌}
use mathlib.Core.Bool.{Bool, true, false, true≢false}
use mathlib.Core.List.{List}
use mathlib.Core.Option.{none}
use native.Mathlib.Omega.{arith}
use lib.ListN.{get_or}
use Rattle.facts.specs.declared.decision.Decision.{Decision}
use Rattle.facts.specs.declared.decision.Decision.TheVariants.{Always, Never, Open}
use Rattle.facts.specs.declared.fact.Fact.{Fact}
use Rattle.facts.specs.Facts.{Fits, Forces}
use Rattle.facts.specs.State.{free, state_of, decide}
use Rattle.store.specs.Layout.{field_count, question_count, question, used, leaves}
use Rattle.store.specs.SoundParts.{Sound}
use Rattle.store.specs.Tree.{Tree, leaf, node, tree, Ascending}
use Rattle.tables.specs.declared.decoding.Part.{Part}
use Rattle.tables.specs.declared.decoding.Part.TheVariants as part
use Rattle.tables.specs.declared.decoding.Shape.{Shape}
use Rattle.tables.specs.declared.decoding.Shape.TheVariants as shape
use Rattle.tables.specs.Decoding.{decode}
use Rattle.tables.specs.Faults.{shape_fault, table_fault}
use Rattle.tables.specs.Rows.{row, row_count}
use Rattle.terms.specs.declared.limits.Limits.{Limits}
use Rattle.terms.specs.declared.limits.TermLimits.{TermLimits}
use Rattle.terms.specs.declared.term.Equation.{Equation}
use Rattle.terms.specs.Limits.{terms_within}
use Rattle.terms.specs.Meaning.{Valuation, truth}
use Rattle.walking.specs.declared.subject.Subject.TheVariants.{Choice}
use Rattle.walking.specs.Value.{leaf_value, choose_value, tree_value, handle_value, part_value, shape_value, row_value, row_values, table_value, subject_value}
use Rattle.facts.proofs.Decided.{decided}
use Rattle.store.proofs.SoundTree.{tree_ascending}
use Rattle.tables.proofs.ListedTruth.{same_simplified}
use Rattle.tables.proofs.TableTaken.{equation_taken, table_taken}
use Rattle.inserting.proofs.ValueRight.{all_longer}

-- a value that is not open
abbrev pub Known : Decision → Type 0
Known Always = Unit {0}
Known Never = Unit {0}
Known Open = ⊥

-- ---- Kleene's truth tables
known_leaf : (b : Bool) → Known (leaf_value b)
known_leaf true = tt
known_leaf false = tt

known_choose : (c d e : Decision) → Known c → Known d → Known e → Known (choose_value c d e)
known_choose Always d e o p q = p
known_choose Never d e o p q = q
known_choose Open d e o p q = absurd o

known_branch : (c y n : Decision) → Known c → Known y → Known n → Known (elim c [ Always ↦ y | Never ↦ n | Open ↦ Open ])
known_branch Always y n o p q = p
known_branch Never y n o p q = q
known_branch Open y n o p q = absurd o

-- ---- questions with one truth wherever the facts hold
abbrev pub Settled : List Fact → Equation → Type 0
Settled xs q = (v w : Valuation) → Fits xs v → Fits xs w → truth v q ≡ truth w q

known_settled : (xs : List Fact) (q : Equation) (d : Decision) → Forces xs q d → Settled xs q → Known d
known_settled xs q Always f e = tt
known_settled xs q Never f e = tt
known_settled xs q Open f e = true≢false (sym f.0.2 ∙ e f.0.0 f.1.0 f.0.1 f.1.1 ∙ f.1.2)

-- the questions with the numbers below k are settled
pub record SettledTo (s : List ℕ) (k : ℕ) (xs : List Fact) : Type 0 where
  pub settled : (j : ℕ) → 1 ≤ j → j < k → Settled xs (question s j)

module _ {s : List ℕ} (xs : List Fact) (t : free (state_of xs) ≡ true) (all : SettledTo s (question_count s + 1) xs) where
  known_decided : (q : Equation) → Settled xs q → Known (decide (state_of xs) q)
  known_decided q e = known_settled xs q (decide (state_of xs) q) (decided xs q t) e

  -- ---- three handles
  known_tree : (least : ℕ) (u : Tree) → 1 ≤ least → Ascending least (question_count s) u → Known (tree_value (question s) u (state_of xs))
  unfolding tree_value
  known_tree least (leaf b) h a = known_leaf b
  known_tree least (node k y n) h a = known_branch (decide (state_of xs) (question s k))
      (tree_value (question s) y (state_of xs)) (tree_value (question s) n (state_of xs))
      (known_decided (question s k) (all.settled k (omega (arith, a.0)) (omega (arith, a.1))))
      (known_tree (suc k) y (omega arith) a.2) (known_tree (suc k) n (omega arith) a.3)

  known_handle : {limits : Limits} → Sound limits s → (h : ℕ) → h < used s + leaves → Known (handle_value s h (state_of xs))
  known_handle snd h l = known_tree 1 (tree s h) (omega arith) (tree_ascending snd h l)

  pub known_choice : {limits : Limits} → Sound limits s → (a b c : ℕ) → a < used s + leaves → b < used s + leaves → c < used s + leaves
      → Known (subject_value s (Choice a b c) (state_of xs))
  known_choice snd a b c ha hb hc =
      known_choose (handle_value s a (state_of xs)) (handle_value s b (state_of xs)) (handle_value s c (state_of xs))
      (known_handle snd a ha) (known_handle snd b hb) (known_handle snd c hc)

  -- ---- a table
  module _ (within : TermLimits) (values : ℕ → Decision) (before : (i : ℕ) → Known (values i)) where
    known_part : (p : Part) → Known (part_value values p)
    known_part (part.Leaf b) = known_leaf b
    known_part (part.Row i) = before i

    known_shape : (sh : Shape) → shape_fault within s sh ≡ none → Known (shape_value (state_of xs) values sh)
    known_shape (shape.Leaf b) f = known_leaf b
    known_shape (shape.Equation e) f = known_decided e
        (λ v w p q. same_simplified s v w (λ j h m. all.settled j h (omega arith) v w p q) e (equation_taken within s e f).listed)
    known_shape (shape.Choice a b c) f = known_choose (part_value values a) (part_value values b) (part_value values c) (known_part a) (known_part b) (known_part c)

  module _ (within : TermLimits) (table : List ℕ) where
    known_rows : (k : ℕ) → ((j : ℕ) → j < k → shape_fault within s (decode (row table j)) ≡ none)
        → (i : ℕ) → Known (get_or (row_values (state_of xs) table k) i Never)
    unfolding row_values
    known_rows zero f i = tt
    known_rows (suc k) f i =
        let values = row_values (state_of xs) table k in
        let before = known_rows k (λ j h. f j (omega arith)) in
        all_longer Known values (row_value (state_of xs) (λ i. get_or values i Never) (row table k)) Never before
        (known_shape within (λ i. get_or values i Never) before (decode (row table k)) (f k (omega arith))) tt i

  pub known_table : (limits : Limits) (table : List ℕ) → table_fault limits s table ≡ none → Known (table_value table (state_of xs))
  known_table limits table e =
      let fine = (table_taken limits s table e).row_fine in
      known_rows (terms_within limits (field_count s)) table (row_count table) (λ j h. (fine j h).shape_fine) (row_count table - 1)
