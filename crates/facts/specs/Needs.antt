-- What the code relies on, and no claim: what asking a record of facts, working answers in and the least sheet require, and what their parts promise.
use Rattle.std.specs.Prelude.{ℕ, ◌+◌, ◌*◌, ◌^◌, ◌≤◌, ◌<◌, ◌≡◌, ◌≢◌, Bool, true, false, cond, List, eqb, length}
use Rattle.terms.specs.declared.term.Equation.{Equation}
use Rattle.terms.specs.Limits.{most_count}
use Rattle.terms.specs.declared.term.Term.{Term}
use Rattle.facts.specs.declared.decision.Join.{Join}
use Rattle.facts.specs.declared.place.Place.{Place}
use Rattle.facts.specs.declared.record.Facts.{Facts}
use Rattle.facts.specs.declared.fact.Fact.{Fact}
use Rattle.facts.specs.Least.{All, counts, can_count, least_count}
use Rattle.facts.specs.State.{free, place, yes_to}
use Rattle.facts.specs.Record.{classes_in, state, last_field, field_places, most_noes, Small, Holds}

-- No offset is above the bound, and all classes and questions are on the record's fields.
pub record Within (bound : ℕ) (f : Facts) : Type 0 where
  pub class_in : (k : ℕ) → k ≤ last_field → (classes_in f.places).class k ≤ last_field
  pub offset_in : (k : ℕ) → k ≤ last_field → (classes_in f.places).offset k ≤ bound
  pub noes_few : f.noes.count ≤ most_noes
  pub noes_small : All (Small most_count) (state f).noes

-- no offset of a record that holds facts is above this
abbrev pub most_offset : ℕ
most_offset = last_field * (most_count + 1)

-- what working in and asking require
pub record Askable (f : Facts) (q : Equation) : Type 0 where
  pub within : Within most_offset f
  pub small : Small most_count q
  pub fitted : free (state f) ≡ true

-- what a question answered yes requires: it is not ruled out
pub record CanAnswerYes (f : Facts) (q : Equation) : Type 0 where
  pub askable : Askable f q
  pub leaves_some : free (yes_to (state f) q) ≡ true

-- what a question answered no requires
pub record CanAnswerNo (f : Facts) (q : Equation) : Type 0 where
  pub small : Small most_count q
  pub room : f.noes.count < most_noes

-- what adding a fact requires, by its answer
abbrev pub CanAnswer : Facts → Equation → Bool → Type 0
CanAnswer f q true = CanAnswerYes f q
CanAnswer f q false = CanAnswerNo f q

pub record CanAddFact (f : Facts) (x : Fact) : Type 0 where
  pub can : CanAnswer f x.question x.answer

-- ---- deciding
-- a term's field is on the list, and its place fits a word when so much is added
pub record HasPlace (places : List Place) (t : Term) (by : ℕ) : Type 0 where
  pub whole : length places ≡ field_places
  pub field_in : t.field.0 ≤ last_field
  pub fits : (place (classes_in places) t).offset + by < 2 ^ 32

pub record HasPlaces (places : List Place) (q : Equation) (by : ℕ) : Type 0 where
  pub left : HasPlace places q.left by
  pub right : HasPlace places q.right by

-- a place once the class `from` is part of the class `into`, its base `by` above
abbrev pub place_joined : Join → Place → Place
place_joined j p = record { class = cond (eqb p.class j.from) j.into p.class; offset = cond (eqb p.class j.from) (p.offset + j.by) p.offset }

-- a class on the record's fields can be joined to another, and every offset fits a word then
pub record CanJoinPlaces (f : Facts) (j : Join) : Type 0 where
  pub from_in : j.from ≤ last_field
  pub raised_fits : (k : ℕ) → k ≤ last_field → (classes_in f.places).offset k + j.by < 2 ^ 32

-- a class can be joined to another, its base no more than a side above
pub record CanJoin (f : Facts) (by : ℕ) : Type 0 where
  pub within : Within most_offset f
  pub raised_little : by ≤ most_offset + most_count

-- ---- the least sheet
-- a field of the record whose least count is small
pub record CanFix (f : Facts) (x : ℕ) : Type 0 where
  pub on_field : x ≤ last_field
  pub within : Within most_offset f
  pub fitted : free (state f) ≡ true
  pub small_count : least_count (state f) x ≤ most_count
  pub from_offset : (state f).classes.offset x ≤ least_count (state f) x
  -- the least count can be, and no smaller one
  pub can : can_count (state f) x (least_count (state f) x) ≡ true
  pub least_can : (y : ℕ) → can_count (state f) x y ≡ true → least_count (state f) x ≤ y

-- its count, and the facts with it
pub record FixedAt (f : Facts) (x count : ℕ) (g : Facts) : Type 0 where
  pub count_is : count ≡ least_count (state f) x
  pub state_is : state g ≡ yes_to (state f) (counts x (least_count (state f) x))

-- the record holds facts with few enough steps that no count of the least sheet is too large
pub record HasLeast (f : Facts) (n : ℕ) : Type 0 where
  pub most : ℕ
  pub holds : Holds most_noes most f
  pub few_steps : last_field * (most + 1) ≤ most_count
  pub few_fields : n ≤ last_field

-- ---- what a yes asks of the classes
-- p and t differ, and c is at most a: where `plan` looks down from p
pub record Down (p t a c : ℕ) : Type 0 where
  pub differ : p ≢ t
  pub at_most : c ≤ a
