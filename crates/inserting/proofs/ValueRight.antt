-- What the facts say of a rule is right for every choice of counts that fits them: the decision of a question is, and Kleene's truth tables keep it so.
use Prim.Native.Nat.{ℕ, zero, suc, ◌-◌, ◌<◌, ◌+◌}
use mathlib.Core.Path.{◌≡◌, refl, sym, ◌∙◌, subst}
use mathlib.Core.Bool.{Bool, true, false, cond, true≢false, false≢true}
use mathlib.Core.List.{List, [], ◌∷◌, ◌++◌}
use lib.ListN.{length, get_or}
use native.Mathlib.Omega.{arith}
use Rattle.facts.specs.declared.decision.Decision.{Decision}
use Rattle.facts.specs.declared.decision.Decision.TheVariants.{Always, Never, Open}
use Rattle.facts.specs.declared.fact.Fact.{Fact}
use Rattle.facts.specs.Facts.{Fits, Forces}
use Rattle.facts.specs.State.{free, state_of, decide}
use Rattle.inserting.specs.SubjectMeaning.{subject_meaning}
use Rattle.store.specs.Layout.{question, used, leaves}
use Rattle.store.specs.Meaning.{meaning}
use Rattle.store.specs.SoundParts.{Sound}
use Rattle.store.specs.Tree.{Tree, leaf, node, tree, tree_truth}
use Rattle.tables.specs.declared.decoding.Part.{Part}
use Rattle.tables.specs.declared.decoding.Part.TheVariants as part
use Rattle.tables.specs.declared.decoding.Shape.{Shape}
use Rattle.tables.specs.declared.decoding.Shape.TheVariants as shape
use Rattle.tables.specs.declared.row.Row.{Row}
use Rattle.tables.specs.Decoding.{decode, part_truth, shape_truth}
use Rattle.tables.specs.Rows.{row, row_count, row_truth, row_truths, rule_meaning}
use Rattle.terms.specs.declared.limits.Limits.{Limits}
use Rattle.terms.specs.declared.term.Equation.{Equation}
use Rattle.terms.specs.Meaning.{Valuation, truth}
use Rattle.walking.specs.declared.subject.Subject.TheVariants.{Choice}
use Rattle.walking.specs.Value.{leaf_value, agreed, choose_value, tree_value, handle_value, part_value, shape_value, row_value, row_values, table_value, subject_value}
use Rattle.facts.proofs.Decided.{decided}
use Rattle.store.proofs.SoundTree.{meaning_is_tree}
use Rattle.tables.proofs.DecodedTruth.{decode_truth}
use Rattle.tables.proofs.RowTruths.{truths_length}
use Rattle.walking.proofs.RowValues.{values_length}

-- what is said of a truth is right
abbrev pub IsRight : Decision → Bool → Type 0
IsRight Always b = b ≡ true
IsRight Never b = b ≡ false
IsRight Open b = Unit {0}

-- ---- Kleene's truth tables
right_leaf : (b : Bool) → IsRight (leaf_value b) b
right_leaf true = refl
right_leaf false = refl

right_agreed : (c d : Decision) (t a b : Bool) → IsRight c a → IsRight d b → IsRight (agreed c d) (cond t a b)
right_agreed Always Always true a b p q = p
right_agreed Always Always false a b p q = q
right_agreed Always Never t a b p q = tt
right_agreed Always Open t a b p q = tt
right_agreed Never Always t a b p q = tt
right_agreed Never Never true a b p q = p
right_agreed Never Never false a b p q = q
right_agreed Never Open t a b p q = tt
right_agreed Open d t a b p q = tt

right_choose : (x y z : Decision) (t a b : Bool) → IsRight x t → IsRight y a → IsRight z b → IsRight (choose_value x y z) (cond t a b)
right_choose Always y z true a b o p q = p
right_choose Always y z false a b o p q = absurd (false≢true o)
right_choose Never y z true a b o p q = absurd (true≢false o)
right_choose Never y z false a b o p q = q
right_choose Open y z t a b o p q = right_agreed y z t a b p q

right_by : (d : Decision) {a b : Bool} → a ≡ b → IsRight d b → IsRight d a
right_by d e p = subst (IsRight d) (sym e) p

-- ---- lists that are made longer at the end
pub all_longer : {A : Type 0} (P : A → Type 0) (xs : List A) (x d : A) → ((i : ℕ) → P (get_or xs i d)) → P x → P d → (i : ℕ) → P (get_or (xs ++ (x ∷ [])) i d)
all_longer P [] x d h p e zero = p
all_longer P [] x d h p e (suc i) = e
all_longer P (y ∷ ys) x d h p e zero = h 0
all_longer P (y ∷ ys) x d h p e (suc i) = all_longer P ys x d (λ j. h (suc j)) p e i

both_longer : {A B : Type 0} (R : A → B → Type 0) (xs : List A) (ys : List B) (x d : A) (y e : B) → length xs ≡ length ys
    → ((i : ℕ) → R (get_or xs i d) (get_or ys i e)) → R x y → R d e → (i : ℕ) → R (get_or (xs ++ (x ∷ [])) i d) (get_or (ys ++ (y ∷ [])) i e)
both_longer R [] [] x d y e l h p q zero = p
both_longer R [] [] x d y e l h p q (suc i) = q
both_longer R [] (b ∷ bs) x d y e l h p q i = absurd (omega arith)
both_longer R (a ∷ ms) [] x d y e l h p q i = absurd (omega arith)
both_longer R (a ∷ ms) (b ∷ bs) x d y e l h p q zero = h 0
both_longer R (a ∷ ms) (b ∷ bs) x d y e l h p q (suc i) = both_longer R ms bs x d y e (omega arith) (λ j. h (suc j)) p q i

-- ---- a choice of counts that fits the facts
module _ (xs : List Fact) (t : free (state_of xs) ≡ true) (v : Valuation) (h : Fits xs v) where
  right_forced : (q : Equation) (d : Decision) → Forces xs q d → IsRight d (truth v q)
  right_forced q Always f = f v h
  right_forced q Never f = f v h
  right_forced q Open f = tt

  right_question : (q : Equation) → IsRight (decide (state_of xs) q) (truth v q)
  right_question q = right_forced q (decide (state_of xs) q) (decided xs q t)

  right_branch : (d : Decision) (y n : Decision) (b a c : Bool) → IsRight d b → IsRight y a → IsRight n c
      → IsRight (elim d [ Always ↦ y | Never ↦ n | Open ↦ Open ]) (cond b a c)
  right_branch Always y n true a c o p q = p
  right_branch Always y n false a c o p q = absurd (false≢true o)
  right_branch Never y n true a c o p q = absurd (true≢false o)
  right_branch Never y n false a c o p q = q
  right_branch Open y n b a c o p q = tt

  right_tree : (ask : ℕ → Equation) (u : Tree) → IsRight (tree_value ask u (state_of xs)) (tree_truth (λ k. truth v (ask k)) u)
  unfolding tree_value
  right_tree ask (leaf b) = right_leaf b
  right_tree ask (node k y n) = right_branch (decide (state_of xs) (ask k)) (tree_value ask y (state_of xs)) (tree_value ask n (state_of xs))
      (truth v (ask k)) (tree_truth (λ k. truth v (ask k)) y) (tree_truth (λ k. truth v (ask k)) n) (right_question (ask k)) (right_tree ask y) (right_tree ask n)

  -- ---- a row, by what it stands for
  module _ (values : ℕ → Decision) (truths : ℕ → Bool) (before : (i : ℕ) → IsRight (values i) (truths i)) where
    right_part : (p : Part) → IsRight (part_value values p) (part_truth truths p)
    right_part (part.Leaf b) = right_leaf b
    right_part (part.Row i) = before i

    right_shape : (sh : Shape) → IsRight (shape_value (state_of xs) values sh) (shape_truth v truths sh)
    right_shape (shape.Leaf b) = right_leaf b
    right_shape (shape.Equation e) = right_question e
    right_shape (shape.Choice a b c) = right_choose (part_value values a) (part_value values b) (part_value values c)
        (part_truth truths a) (part_truth truths b) (part_truth truths c) (right_part a) (right_part b) (right_part c)

    right_row : (r : Row) → IsRight (row_value (state_of xs) values r) (row_truth v truths r)
    right_row r = right_by (row_value (state_of xs) values r) (decode_truth v truths r) (right_shape (decode r))

  right_rows : (table : List ℕ) (k i : ℕ) → IsRight (get_or (row_values (state_of xs) table k) i Never) (get_or (row_truths v table k) i false)
  unfolding row_values row_truths
  right_rows table zero i = refl
  right_rows table (suc k) i =
      let values = row_values (state_of xs) table k in
      let truths = row_truths v table k in
      both_longer IsRight values truths (row_value (state_of xs) (λ i. get_or values i Never) (row table k)) Never
      (row_truth v (λ i. get_or truths i false) (row table k)) false (values_length (state_of xs) table k ∙ sym (truths_length v table k))
      (right_rows table k) (right_row (λ i. get_or values i Never) (λ i. get_or truths i false) (right_rows table k) (row table k)) refl i

  pub right_table : (table : List ℕ) → IsRight (table_value table (state_of xs)) (rule_meaning table v)
  right_table table = right_rows table (row_count table) (row_count table - 1)

  -- ---- three handles
  module _ {limits : Limits} {s : List ℕ} (snd : Sound limits s) where
    right_handle : (a : ℕ) → a < used s + leaves → IsRight (handle_value s a (state_of xs)) (meaning s a v)
    right_handle a l = right_by (handle_value s a (state_of xs)) (meaning_is_tree snd a l v) (right_tree (question s) (tree s a))

    pub right_choice : (a b c : ℕ) → a < used s + leaves → b < used s + leaves → c < used s + leaves
        → IsRight (subject_value s (Choice a b c) (state_of xs)) (subject_meaning s (Choice a b c) v)
    right_choice a b c ha hb hc =
        right_choose (handle_value s a (state_of xs)) (handle_value s b (state_of xs)) (handle_value s c (state_of xs))
        (meaning s a v) (meaning s b v) (meaning s c v) (right_handle a ha) (right_handle b hb) (right_handle c hc)
