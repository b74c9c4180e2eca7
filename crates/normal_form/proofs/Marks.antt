-- The pass from the last entry down marks just the handles that the root reaches. It marks only handles of marked entries, so all that is marked is reached.
-- An entry's handles are lower than its own, so an entry's flag no longer changes once the pass has come to it: at the end each marked entry has both its
-- handles marked, and so all that is reached is marked.
use Prim.Native.Nat.{ℕ, zero, suc, ◌+◌, ◌≤◌, ◌<◌}
use mathlib.Core.Path.{◌≡◌, sym, ◌∙◌}
use mathlib.Core.Logic.{◌↔◌}
use mathlib.Core.Bool.{Bool, true, false, false≢true, cond}
use mathlib.Core.List.{List}
use native.Mathlib.Omega.{arith}
use native.Mathlib.Decide.{ℕ_discrete}
use lib.ListN.{length, get_or, set, replicate, length-set, length-replicate}
use lib.Seq.{get_or-set_same, get_or-set_other}
use Rattle.terms.proofs.Cases.{by_test}
use Rattle.terms.proofs.OneValue.{all_alike}
use Rattle.store.specs.Layout.{leaves}
use Rattle.normal_form.specs.declared.limits.TableLimits.{TableLimits}
use Rattle.normal_form.specs.Falling.{Falling}
use Rattle.normal_form.specs.Reachable.{Reaches, itself, by_yes, by_no, flag_count, mark_parts, marks_down, reachable}
use Rattle.normal_form.specs.Table.{entry_count, entry}

abbrev Marked : List Bool → ℕ → Type 0
Marked marks g = get_or marks g false ≡ true

-- both handles of the i-th entry are marked
abbrev PartsMarked : List ℕ → List Bool → ℕ → Type 0
PartsMarked t marks i = Marked marks (entry t i).yes × Marked marks (entry t i).no

-- all that is marked is reached
abbrev OnlyReached : List ℕ → ℕ → List Bool → Type 0
OnlyReached t root marks = (g : ℕ) → Marked marks g → Reaches t root g

-- the pass over m entries has come down to the k-th: each marked entry from there on has both its handles marked
record Passed (t : List ℕ) (m root k : ℕ) (marks : List Bool) : Type 0 where
  room : m + leaves ≤ length marks
  root_marked : Marked marks root
  only_reached : OnlyReached t root marks
  closed : (i : ℕ) → k ≤ i → i < m → Marked marks (i + leaves) → PartsMarked t marks i

module _ (marks : List Bool) (h : ℕ) where
  stays_marked : h < length marks → (g : ℕ) → Marked marks g → Marked (set marks h true) g
  stays_marked l g e = elim (ℕ_discrete g h) [
    | yes d ↦ rw d (get_or-set_same marks h true false l)
    | no d ↦ get_or-set_other marks h g true false d ∙ e
  ]

  still_reached : {t : List ℕ} {root : ℕ} → Reaches t root h → OnlyReached t root marks → OnlyReached t root (set marks h true)
  still_reached r only g e = elim (ℕ_discrete g h) [
    | yes d ↦ rw d r
    | no d ↦ only g (sym (get_or-set_other marks h g true false d) ∙ e)
  ]

module _ {t : List ℕ} {m root k : ℕ} {marks : List Bool} where
  -- a reached handle that is lower than the passed entries' own may be marked
  mark_lower : (h : ℕ) → h < k + leaves → k ≤ m → Reaches t root h → Passed t m root k marks → Passed t m root k (set marks h true)
  mark_lower h l b r p =
      let stays = stays_marked marks h (omega arith) in
      record {
        room = simp length-set p.room;
        root_marked = stays root p.root_marked;
        only_reached = still_reached marks h r p.only_reached;
        closed = λ i a c e.
            let both = p.closed i a c (sym (get_or-set_other marks h (i + leaves) true false (omega arith)) ∙ e) in
            (stays _ both.0, stays _ both.1);
      }

  -- the pass has come to one entry more, if that has both its handles marked where it is marked
  come_down : Passed t m root (suc k) marks → (Marked marks (k + leaves) → PartsMarked t marks k) → Passed t m root k marks
  come_down p both = record {
    room = p.room;
    root_marked = p.root_marked;
    only_reached = p.only_reached;
    closed = λ i a c e. elim (ℕ_discrete i k) [
      | yes d ↦ rw d (both (rw d at e))
      | no d ↦ p.closed i (omega arith) c e
    ];
  }

module _ {t : List ℕ} {m : ℕ} (f : Falling t m) (root : ℕ) where
  pass_entry : (k : ℕ) (marks : List Bool) → k < m → Passed t m root (suc k) marks → Passed t m root k (mark_parts t k marks)
  unfolding mark_parts
  pass_entry k marks h p =
      let y = (entry t k).yes in
      let n = (entry t k).no in
      let hy : y < k + leaves = f.yes_below k h in
      let hn : n < k + leaves = f.no_below k h in
      by_test (λ b. Passed t m root k (cond b (set (set marks y true) n true) marks)) (get_or marks (k + leaves) false)
      (λ e.
      let r = p.only_reached (k + leaves) e in
      let q = mark_lower y (omega arith) (omega arith) (by_yes k r) p in
      come_down (mark_lower n (omega arith) (omega arith) (by_no k r) q)
      (λ _. (
        stays_marked (set marks y true) n (omega arith) y (get_or-set_same marks y true false (omega arith)),
        get_or-set_same (set marks y true) n true false (omega arith),
      )))
      (λ e. come_down p (λ d. absurd (false≢true (sym e ∙ d))))

  pass_down : (k : ℕ) (marks : List Bool) → k ≤ m → Passed t m root k marks → Passed t m root 0 (marks_down t k marks)
  unfolding marks_down
  pass_down zero marks h p = p
  pass_down (suc k) marks h p = pass_down k (mark_parts t k marks) (omega arith) (pass_entry k marks h p)

module _ (limits : TableLimits) {t : List ℕ} (f : Falling t (entry_count t)) (root : ℕ) (l : root < entry_count t + leaves)
    (few : entry_count t ≤ limits.entries) where
  passed : Passed t (entry_count t) root 0 (reachable limits t root)
  unfolding reachable
  passed =
      let none = replicate (flag_count limits) false in
      pass_down f root (entry_count t) (set none root true) (omega arith) (record {
        room = simp (length-set, length-replicate) (omega arith);
        root_marked = get_or-set_same none root true false (simp length-replicate (omega arith));
        only_reached = still_reached none root itself (λ g e. absurd (false≢true (sym (all_alike false (flag_count limits) g) ∙ e)));
        closed = λ i a c _. absurd (omega arith);
      })

  reached_marked : (g : ℕ) → Reaches t root g → (g < entry_count t + leaves) × Marked (reachable limits t root) g
  reached_marked g itself = (l, passed.root_marked)
  reached_marked g (by_yes i r) =
      let at = reached_marked (i + leaves) r in
      let h : i < entry_count t = omega (arith, at.0) in
      (omega (arith, f.yes_below i h), (passed.closed i (omega arith) h at.1).0)
  reached_marked g (by_no i r) =
      let at = reached_marked (i + leaves) r in
      let h : i < entry_count t = omega (arith, at.0) in
      (omega (arith, f.no_below i h), (passed.closed i (omega arith) h at.1).1)

  -- The marks are exact.
  pub marks_exact : (g : ℕ) → (get_or (reachable limits t root) g false ≡ true) ↔ Reaches t root g
  marks_exact g = (passed.only_reached g, λ r. (reached_marked g r).1)
