-- Marking and numbering, turn by turn: what is left of the pass over the flags gives what the whole pass gives, the flags up to the handle
-- are those of the definition's shorter list, and each handle passed has its row.
use Prim.Native.Nat.{ℕ, suc, ◌+◌, ◌-◌, ◌*◌, ◌≤◌, ◌<◌}
use mathlib.Core.Path.{◌≡◌, refl, sym, ◌∙◌, ap}
use mathlib.Core.Bool.{Bool, true, false}
use mathlib.Core.List.{List}
use native.Mathlib.Omega.{arith}
use native.Mathlib.Decide.{ℕ_discrete}
use lib.ListN.{length, get_or, set, replicate, length-set, length-replicate}
use lib.Seq.{get_or-set_same, get_or-set_other}
use Rattle.std.specs.Int.{from_bool}
use Rattle.store.specs.Layout.{leaves, used}
use Rattle.writing.specs.Needs.{most_handles, Handled, HasParts, Marked}
use Rattle.writing.specs.WriteBack.{mark_parts, marks_down, reachable, marked_before, row_of}
use Rattle.store.proofs.SoundFacts.{sound_says, used_fits, used_few}
use Rattle.store.proofs.SoundTree.{falling}
use Rattle.terms.proofs.Cases.{by_test}
use Rattle.terms.proofs.OneValue.{all_alike}
use Rattle.writing.proofs.Marks.{parts_length, down_alike, Alike, first_marks, first_length}
use Rattle.writing.proofs.MarkedRows.{before_marked, before_unmarked, before_few, row_of_leaf, row_of_entry}

-- ---- from the handle down
-- what is left of the pass, from the handle before h on, gives what the whole pass over the first flags gives
pub record Marking (s : List ℕ) (handle : ℕ) (first marks : List Bool) (h : ℕ) : Type 0 where
  pub up_to : h ≤ suc handle
  pub size : length marks ≡ most_handles
  pub left : marks_down s (h - leaves) marks ≡ marks_down s (suc handle - leaves) first

module _ {s : List ℕ} {handle : ℕ} (k : Handled s handle) where
  pub handle_fits : handle < most_handles
  handle_fits = omega (arith, used_few (sound_says k.limits s k.sound_in), k.fit.entries_fit, k.handle_in)

  pub entry_parts : (i : ℕ) → i < used s → HasParts s i
  entry_parts i l =
      let snd = sound_says k.limits s k.sound_in in
      record {
        there = omega (arith, used_fits snd);
        own_in = omega (arith, used_few snd, k.fit.entries_fit);
        yes_below = (snd.entry_kept i l).yes_below;
        no_below = (snd.entry_kept i l).no_below;
      }

  module _ {first marks : List Bool} {h : ℕ} (m : Marking s handle first marks h) where
    pub marking_parts : leaves < h → HasParts s (h - 1 - leaves)
    marking_parts l = entry_parts (h - 1 - leaves) (omega (arith, m.up_to, k.handle_in))

    pub marking_next : {next : List Bool} → leaves < h → next ≡ mark_parts s (h - 1 - leaves) marks → Marking s handle first next (h - 1)
    unfolding marks_down
    marking_next l e =
        let d : h - leaves ≡ suc (h - 1 - leaves) = omega arith in
        record {
          up_to = omega (arith, m.up_to);
          size = ap length e ∙ parts_length s (h - 1 - leaves) marks ∙ m.size;
          left = ap (marks_down s (h - 1 - leaves)) e ∙ sym (ap (λ n. marks_down s n marks) d) ∙ m.left;
        }

    -- the flags that the pass begins with, up to the handle
    first_alike : {none : List Bool} → none ≡ replicate most_handles false → Alike (suc handle) (set none handle true) (first_marks handle)
    first_alike {none} e g l = elim (ℕ_discrete g handle) [
      | yes d ↦ rw d (get_or-set_same none handle true false (omega (arith, handle_fits, ap length e, length-replicate most_handles false))
          ∙ sym (get_or-set_same (replicate (suc handle) false) handle true false (omega (arith, length-replicate (suc handle) false))))
      | no d ↦ get_or-set_other none handle g true false d ∙ ap (λ x. get_or x g false) e ∙ all_alike false most_handles g
          ∙ sym (get_or-set_other (replicate (suc handle) false) handle g true false d ∙ all_alike false (suc handle) g)
    ]

    pub marking_ends : {none : List Bool} → h ≤ leaves → none ≡ replicate most_handles false → first ≡ set none handle true → Marked s handle marks
    unfolding marks_down reachable
    marking_ends {none} l e f =
        let z : h - leaves ≡ 0 = omega arith in
        let done : marks ≡ marks_down s (suc handle - leaves) (set none handle true) =
        sym (ap (λ n. marks_down s n marks) z) ∙ m.left ∙ ap (marks_down s (suc handle - leaves)) f in
        record {
          size = m.size;
          marks_are = λ g u. ap (λ x. get_or x g false) done
              ∙ down_alike (falling (sound_says k.limits s k.sound_in)) (suc handle) (suc handle - leaves) (set none handle true) (first_marks handle)
              (omega (arith, k.handle_in)) (omega arith)
              (omega (arith, handle_fits, length-set none handle true, ap length e, length-replicate most_handles false))
              (omega (arith, first_length handle)) (first_alike e) g u;
        }

-- ---- rows
-- the handles before h have their rows, and so many entries before it are marked
pub record Numbering (marks : List Bool) (handle : ℕ) (rows : List ℕ) (count h : ℕ) : Type 0 where
  pub low : leaves ≤ h
  pub up_to : h - leaves ≤ suc handle - leaves
  pub size : length rows ≡ most_handles
  pub few : count ≤ h - leaves
  pub count_is : count ≡ marked_before marks (h - leaves)
  pub rows_are : (g : ℕ) → g < h → get_or rows g 0 ≡ row_of marks g

module _ (marks : List Bool) (handle : ℕ) (rows : List ℕ) where
  pub numbering_begins : length rows ≡ most_handles → Numbering marks handle (set (set rows 0 0) 1 1) 0 leaves
  unfolding marked_before
  numbering_begins e = record {
    low = omega arith;
    up_to = omega arith;
    size = length-set (set rows 0 0) 1 1 ∙ length-set rows 0 0 ∙ e;
    few = omega arith;
    count_is = refl;
    rows_are = λ g l. elim (ℕ_discrete g 1) [
      | yes d ↦ rw d (get_or-set_same (set rows 0 0) 1 1 0 (omega (arith, length-set rows 0 0)) ∙ sym (row_of_leaf marks 1 (omega arith)))
      | no d ↦
          let z : g ≡ 0 = omega arith in
          rw z (get_or-set_other (set rows 0 0) 1 0 1 0 (omega arith) ∙ get_or-set_same rows 0 0 0 (omega arith) ∙ sym (row_of_leaf marks 0 (omega arith)))
    ];
  }

  module _ {count h : ℕ} (n : Numbering marks handle rows count h) where
    pub numbering_next : {more : ℕ} → handle < most_handles → h ≤ handle → more ≡ from_bool (get_or marks h false)
        → Numbering marks handle (set rows h (3 + 2 * count)) (count + more) (h + 1)
    numbering_next {more} b l e = record {
      low = omega (arith, n.low);
      up_to = omega (arith, n.low);
      size = length-set rows h (3 + 2 * count) ∙ n.size;
      few = omega (arith, counted, before_few marks (h + 1 - leaves));
      count_is = counted;
      rows_are = λ g u. elim (ℕ_discrete g h) [
        | yes d ↦ rw d (get_or-set_same rows h (3 + 2 * count) 0 (omega (arith, n.size)) ∙ here)
        | no d ↦ get_or-set_other rows h g (3 + 2 * count) 0 d ∙ n.rows_are g (omega arith)
      ];
    }
      where
        back : h - leaves + leaves ≡ h
        back = omega (arith, n.low)

        here : 3 + 2 * count ≡ row_of marks h
        here = ap (λ c. 3 + 2 * c) n.count_is ∙ sym (row_of_entry marks (h - leaves)) ∙ ap (row_of marks) back

        flag : get_or marks (h - leaves + leaves) false ≡ get_or marks h false
        flag = ap (λ x. get_or marks x false) back

        step : h + 1 - leaves ≡ suc (h - leaves)
        step = omega (arith, n.low)

        counted : count + more ≡ marked_before marks (h + 1 - leaves)
        counted = ap (λ x. count + x) e ∙ by_test (λ t. get_or marks h false ≡ t → count + from_bool t ≡ marked_before marks (h + 1 - leaves)) (get_or marks h false)
            (λ _ t. omega (arith, n.count_is, ap (marked_before marks) step, before_marked marks (h - leaves) (flag ∙ t)))
            (λ _ t. omega (arith, n.count_is, ap (marked_before marks) step, before_unmarked marks (h - leaves) (flag ∙ t))) refl
