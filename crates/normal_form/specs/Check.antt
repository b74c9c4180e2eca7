-- The check of a table and a root (document 02, vii): "Accept a table and root exactly if no error below is met." "Each condition is tested over the whole table before the next."
use Rattle.std.specs.Prelude.{ℕ, ◌+◌, ◌-◌, ◌%◌, Bool, true, false, cond, not, ◌&&◌, List, eqb, leb, ltb, length, get_or, Ok, Err}
use Rattle.store.specs.Layout.{leaves}
use Rattle.store.specs.Sound.{all_below}
use Rattle.terms.specs.declared.term.Equation.{Equation}
use Rattle.terms.specs.Form.{is_simplified}
use Rattle.terms.specs.Order.{fields_first, before}
use Rattle.terms.specs.Words.{allows}
use Rattle.normal_form.specs.declared.answer.CheckFault.TheVariants.{BadShape, BadTerm, HandleNotLower, EqualEntries, NotReachable, RuleApplies}
use Rattle.normal_form.specs.CheckAnswer.{CheckAnswer}
use Rattle.store.specs.declared.verdict.Verdict.{Verdict}
use Rattle.store.specs.declared.verdict.Verdict.TheVariants.{Never, Always, Sometimes}
use Rattle.normal_form.specs.declared.entry.Entry.{Entry}
use Rattle.normal_form.specs.declared.limits.TableLimits.{TableLimits}
use Rattle.normal_form.specs.Named.{named}
use Rattle.normal_form.specs.Reachable.{reachable}
use Rattle.normal_form.specs.Table.{entry_length, entry_count, entry, asks}

-- "81 words not a multiple of four, too many entries, or a root at or above entries + 2"
unfoldable pub shape_kept : TableLimits → List ℕ → ℕ → Bool
shape_kept limits t root =
    eqb (length t % entry_length) 0 && leb (entry_count t) limits.entries && ltb root (entry_count t + leaves)

-- "82 field above 16, steps above 4,095, or not simplified": of an entry
unfoldable pub terms_kept : TableLimits → Entry → Bool
terms_kept limits e = let g = asks e in allows limits.terms g.left && allows limits.terms g.right && is_simplified g

-- "83 a handle not lower than its entry's own": of the i-th entry
unfoldable pub handles_lower : Entry → ℕ → Bool
handles_lower e i = ltb e.yes (i + leaves) && ltb e.no (i + leaves)

-- "84 equal entries": all four words
unfoldable pub same_entry : Entry → Entry → Bool
same_entry d e = eqb d.left e.left && eqb d.right e.right && eqb d.yes e.yes && eqb d.no e.no

unfoldable pub entries_differ : List ℕ → ℕ → Bool
entries_differ t k = all_below k (λ i. all_below i (λ j. not (same_entry (entry t j) (entry t i))))

-- "85 an entry not reachable from the root"
unfoldable pub all_reachable : TableLimits → List ℕ → ℕ → Bool
all_reachable limits t root = all_below (entry_count t) (λ i. get_or (reachable limits t root) (i + leaves) false)

-- "86 one of Definition 28's rules applies". Rules 4 to 7: a part that is an entry has to ask an equation after g.
abbrev pub asks_after : List ℕ → Equation → ℕ → Bool
asks_after t g handle = cond (ltb handle leaves) true (before fields_first g (asks (entry t (handle - leaves))))

-- none of rules 3 to 7 applies at the i-th entry
unfoldable pub parts_ordered : List ℕ → ℕ → Bool
parts_ordered t i =
    let e = entry t i in
    not (eqb e.yes e.no) && asks_after t (asks e) e.yes && asks_after t (asks e) e.no

-- For rule 8': the left field of the i-th entry is not named in its yes part. That an equation which names it is after the entry's needs no test: if rules 4 to 7 apply nowhere,
-- every equation of a part is (theorem `rules_exactly`).
unfoldable pub left_apart : TableLimits → List ℕ → ℕ → Bool
left_apart limits t i =
    let e = entry t i in
    not (get_or (named limits (asks e).left.field.0 t (entry_count t)) e.yes false)

unfoldable pub no_rule_applies : TableLimits → List ℕ → Bool
no_rule_applies limits t = all_below (entry_count t) (parts_ordered t) && all_below (entry_count t) (left_apart limits t)

-- "On acceptance the result is the root's verdict." (theorem `check_verdict`)
abbrev pub root_verdict : ℕ → Verdict
root_verdict root = cond (eqb root 0) Never (cond (eqb root 1) Always Sometimes)

-- 84 to 86: entries whose handles are known to be lower
unfoldable pub check_diagram : TableLimits → List ℕ → ℕ → CheckAnswer
check_diagram limits t root =
    cond (entries_differ t (entry_count t))
    (cond (all_reachable limits t root)
    (cond (no_rule_applies limits t) (Ok (root_verdict root)) (Err RuleApplies))
    (Err NotReachable))
    (Err EqualEntries)

-- 82 and 83, then those
unfoldable pub check_entries : TableLimits → List ℕ → ℕ → CheckAnswer
check_entries limits t root =
    let each = all_below (entry_count t) in
    cond (each (λ i. terms_kept limits (entry t i)))
    (cond (each (λ i. handles_lower (entry t i) i)) (check_diagram limits t root) (Err HandleNotLower))
    (Err BadTerm)

-- 81, then those
unfoldable pub check : TableLimits → List ℕ → ℕ → CheckAnswer
check limits t root = cond (shape_kept limits t root) (check_entries limits t root) (Err BadShape)
