-- What adding is on each way through the code. Where the store was full, the words before the added entries are as they came but for the number of
-- entries used, and after these there were zeros; so putting both back gives the very words.
use Prim.Native.Nat.{ℕ, ◌+◌, ◌-◌, ◌*◌, ◌≤◌, ◌<◌}
use mathlib.Core.Path.{◌≡◌, sym, ap, subst, ◌∙◌}
use mathlib.Core.Bool.{Bool, true}
use mathlib.Core.List.{List}
use native.Mathlib.Omega.{arith}
use native.Mathlib.Decide.{ℕ_discrete, dec_lt}
use lib.ListN.{length, get_or, take, replicate, length-set, length-take, length-append, length-replicate, get_or-replicate, get_or-append}
use lib.Seq.{get_or-append-add, get_or-take, get_or-set_same, get_or-set_other, ext_get_or}
use Rattle.std.proofs.Common.{Option, Some, None}
use Rattle.facts.specs.declared.record.Facts.{Facts}
use Rattle.facts.specs.Record.{state}
use Rattle.facts.specs.State.{start}
use Rattle.index.specs.declared.chains.Index.{Index}
use Rattle.index.specs.Needs.{EntriesFit, hash_of, Loaded}
use Rattle.inserting.specs.Given.{Taken}
use Rattle.inserting.specs.Needs.{whole_walk, restored, CanWalkAll, CanAdd}
use Rattle.inserting.specs.SubjectMeaning.{subject_meaning}
use Rattle.operations.specs.declared.answer.BuildFault.TheVariants.{NoRoom}
use Rattle.std.specs.Prelude.{Ok}
use Rattle.operations.specs.Operations.{refused, unless_full, added, add_meaning}
use Rattle.store.specs.Grown.{Agree}
use Rattle.store.specs.Layout.{heading_length, question_count, used_place, used, with_used, entries_start, entry}
use Rattle.store.specs.Outcome.{Outcome, outcome}
use Rattle.store.specs.Sound.{same_entry, differ_below}
use Rattle.store.specs.SoundParts.{Sound}
use Rattle.terms.specs.declared.limits.Limits.{Limits}
use Rattle.walking.specs.declared.subject.Subject.{Subject}
use Rattle.walking.specs.declared.subject.Subject.TheVariants.{Table, Choice}
use Rattle.walking.specs.Needs.{Named, CanWalk, InIndex}
use Rattle.walking.specs.Walk.{walk}
use Rattle.store.proofs.SoundFacts.{sound_says, used_fits, used_few, differ_from}
use Rattle.store.proofs.StoreWords.{questions_agree}
use Rattle.inserting.proofs.TableGood.{good_table}
use Rattle.inserting.proofs.WalkInserts.{walk_inserts}
use Rattle.walking.proofs.SoundWalkable.{sound_walkable, can_begin}
use Rattle.walking.proofs.WalkKeeps.{GoesOn, walk_goes}

-- ---- putting the words back
-- the words of a restored store, from what stands before and after the first entries
module _ (s t : List ℕ) (same : length t ≡ length s) (agree : Agree s t (used s)) (fits : entries_start s + 3 * used s ≤ length s)
    (zeros : (k : ℕ) → entries_start s + 3 * used s ≤ k → get_or s k 0 ≡ 0) where
  abbrev from : ℕ
  from = entries_start t + 3 * used s

  from_is : from ≡ entries_start s + 3 * used s
  from_is = omega (arith, questions_agree agree)

  abbrev counted : List ℕ
  counted = with_used t (used s)

  counted_length : length counted ≡ length t
  counted_length = length-set t used_place (used s)

  abbrev front : List ℕ
  front = take from counted

  front_length : length front ≡ from
  front_length = omega (arith, length-take from counted, counted_length, from_is)

  before : (k : ℕ) → k < from → get_or (restored t (used s)) k 0 ≡ get_or s k 0
  before k h =
      get_or-append front (replicate (length counted - from) 0) 0 k (omega (arith, front_length))
      ∙ get_or-take from counted k 0 h
      ∙ elim (ℕ_discrete k used_place) [
        | yes d ↦ ap (λ x. get_or counted x 0) d ∙ get_or-set_same t used_place (used s) 0 (omega (arith, from_is)) ∙ ap (λ x. get_or s x 0) (sym d)
        | no n ↦ get_or-set_other t used_place k (used s) 0 n ∙ agree.word k (omega (arith, from_is)) n
      ]

  after : (k : ℕ) → from ≤ k → k < length s → get_or (restored t (used s)) k 0 ≡ get_or s k 0
  after k h l =
      let at : k ≡ length front + (k - length front) = omega (arith, front_length) in
      ap (λ (x : ℕ). get_or (restored t (used s)) x 0) at
      ∙ get_or-append-add front (replicate (length counted - from) 0) (k - length front) 0
      ∙ get_or-replicate (length counted - from) (k - length front) 0 0 (omega (arith, front_length, counted_length))
      ∙ sym (zeros k (omega (arith, from_is)))

  restored_length : length (restored t (used s)) ≡ length s
  restored_length =
      omega (arith, length-append front (replicate (length counted - from) 0), front_length, length-replicate {A = ℕ} (length counted - from) 0, counted_length, from_is)

  restored_same : restored t (used s) ≡ s
  restored_same = ext_get_or 0 (restored t (used s)) s restored_length (λ k h. elim (dec_lt k from) [
    | yes l ↦ before k l
    | no n ↦ after k (omega arith) (omega (arith, restored_length))
  ])

-- ---- the walk over all questions
module _ {limits : Limits} {s : List ℕ} {subject : Subject} (can : CanWalkAll limits s subject) where
  snd : Sound limits s
  snd = sound_says limits s can.is_sound

  pub heading_within : heading_length ≤ length s
  heading_within = omega (arith, snd.list_in)

  module _ {from u w : ℕ} (ef : from ≡ entries_start s) (eu : u ≡ used s) (ew : w ≡ u) where
    pub can_load : EntriesFit s from w
    can_load = record { begin = ef; within = omega (arith, used_fits snd); few = omega (arith, used_few snd, can.fit.entries_fit) }

    pub in_index : {r : Bool} {x : Index} → r ≡ differ_below s w → Loaded r (EntriesFit s from) (entry s) hash_of same_entry w x → InIndex s x
    in_index {r} er x =
        let n : w ≡ used s = ew ∙ eu in
        let t : r ≡ true = er ∙ ap (differ_below s) n ∙ differ_from s (used s) snd.entries_differ in
        record { all = x.all t ∙ n; ready = rw (← ef) (x.ready t) }

  pub can_walk : {q : ℕ} (f : Facts) → q ≡ question_count s → state f ≡ start → CanWalk limits s subject f 1 q
  can_walk f eq e = rw eq (can_begin s subject can.fit can.is_sound can.named e)

  pub from_start : {q : ℕ} (f : Facts) → q ≡ question_count s → state f ≡ start → {o : Outcome (Option ℕ)}
      → o ≡ walk limits s subject q 1 (state f) → o ≡ whole_walk limits s subject
  from_start f eq ef e = e ∙ (λ i. walk limits s subject (eq i) 1 (ef i))

-- ---- adding what it finds
module _ {limits : Limits} {s : List ℕ} {subject : Subject} (can : CanAdd limits s subject) where
  store_sound : Sound limits s
  store_sound = sound_says limits s can.is_sound

  pub heading_in : heading_length ≤ length s
  heading_in = omega (arith, store_sound.list_in)

  -- a table that build takes can be walked over
  named_by : (x : Subject) → Taken limits s x → Named s x
  named_by (Table rows) taken =
      good_table limits s rows.now (omega (arith, store_sound.fields_in, can.fit.fields_fit)) (omega (arith, can.fit.counts_fit)) taken
  named_by (Choice a b c) taken = taken

  pub can_walk_all : CanWalkAll limits s subject
  can_walk_all = record { fit = can.fit; is_sound = can.is_sound; named = named_by subject can.given.taken }

  goes : GoesOn s (whole_walk limits s subject)
  goes = walk_goes limits can.fit subject (question_count s) 1 start s (sound_walkable limits s can.fit can.is_sound) (omega arith) (omega arith)

  module _ {r : Option ℕ} {t : List ℕ} (e : outcome r t ≡ whole_walk limits s subject) where
    left : GoesOn s (outcome r t)
    left = subst (GoesOn s) (sym e) goes

    -- the walk adds the finished diagram
    adds : unless_full s (outcome r t) ≡ add_meaning limits s (subject_meaning s subject)
    unfolding added
    adds = ap (unless_full s) (e ∙ walk_inserts store_sound can.given)

    pub added_at : (h : ℕ) → r ≡ Some h → outcome (Ok h) t ≡ add_meaning limits s (subject_meaning s subject)
    added_at h er = ap (λ a. unless_full s (outcome a t)) (sym er) ∙ adds

    module _ {u : ℕ} (eu : u ≡ used s) (same : length t ≡ length s) where
      pub can_restore : entries_start t + 3 * u ≤ length t
      can_restore = omega (arith, questions_agree left.agrees, used_fits store_sound)

      pub full_restored : r ≡ None → {w : List ℕ} → w ≡ restored t u → refused w NoRoom ≡ add_meaning limits s (subject_meaning s subject)
      full_restored er ew =
          ap (λ x. refused x NoRoom) (ew ∙ ap (restored t) eu ∙ restored_same s t same left.agrees (used_fits store_sound) store_sound.unused_zero)
          ∙ ap (λ a. unless_full s (outcome a t)) (sym er) ∙ adds
