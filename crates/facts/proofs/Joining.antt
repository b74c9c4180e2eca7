-- A join place by place: the places up to one are joined, the rest are as before; after all of them the list gives the joined classes, since a
-- field beyond the list is in no class that is joined.
use Prim.Native.Nat.{ℕ, ◌+◌, ◌≤◌, ◌<◌, ◌^◌}
use mathlib.Core.Path.{◌≡◌, refl, sym, ap, ◌∙◌, fun_ext}
use mathlib.Core.List.{List}
use native.Mathlib.Omega.{arith}
use native.Mathlib.Decide.{dec_le, ℕ_discrete}
use borrow.Author.Tests.{ne_eqb}
use lib.ListN.{length, get_or, set, length-set}
use lib.Seq.{get_or-set_same, get_or-set_other}
use Rattle.std.proofs.lemmas.List.{get_or_default, get_or_past}
use Rattle.facts.specs.declared.decision.Join.{Join}
use Rattle.facts.specs.declared.decision.Plan.TheVariants as plans
use Rattle.facts.specs.declared.place.Place.{Place}
use Rattle.facts.specs.declared.record.Facts.{Facts}
use Rattle.facts.specs.Needs.{CanJoinPlaces, place_joined}
use Rattle.facts.specs.Record.{state, last_field, field_places, own_place, classes_in}
use Rattle.facts.specs.State.{joined, planned}

module _ (j : Join) (old : List Place) where
  pub record Joining (i : ℕ) (new : List Place) : Type 0 where
    pub old_size : length old ≡ field_places
    pub size : length new ≡ field_places
    pub done : (k : ℕ) → k < i → get_or new k (own_place k) ≡ place_joined j (get_or old k (own_place k))
    pub left : (k : ℕ) → i ≤ k → get_or new k (own_place k) ≡ get_or old k (own_place k)

  pub joining_next : {i : ℕ} {new : List Place} {p q : Place} → Joining i new → i < length new → p ≡ get_or new i p → q ≡ place_joined j p → Joining (i + 1) (set new i q)
  joining_next {i} {new} {p} {q} n h ep eq = record {
    old_size = n.old_size;
    size = simp length-set n.size;
    done = λ k l. elim (ℕ_discrete k i) [
      | yes e ↦ rw e (get_or-set_same new i q (own_place i) h ∙ eq ∙ ap (place_joined j) (ep ∙ get_or_default new i p (own_place i) h ∙ n.left i (omega arith)))
      | no d ↦ get_or-set_other new i k q (own_place k) d ∙ n.done k (omega arith)
    ];
    left = λ k l. get_or-set_other new i k q (own_place k) (λ e. omega arith) ∙ n.left k (omega arith);
  }

  pub joining_all : {i : ℕ} {new : List Place} → Joining i new → field_places ≤ i → j.from ≤ last_field → classes_in new ≡ joined (classes_in old) j
  joining_all {i} {new} n h from =
      let same : (k : ℕ) → get_or new k (own_place k) ≡ place_joined j (get_or old k (own_place k)) = λ k. elim (dec_le i k) [
        | yes m ↦
            let beyond : get_or old k (own_place k) ≡ own_place k = get_or_past old k (own_place k) (omega (arith, n.size, n.old_size)) in
            n.left k m ∙ beyond ∙ sym (rw (beyond, ne_eqb k j.from (λ e. omega (arith, n.size))) refl)
        | no m ↦ n.done k (omega arith)
      ] in
      λ x. record { class = fun_ext (λ k. ap (λ (p : Place). p.class) (same k)) x; offset = fun_ext (λ k. ap (λ (p : Place). p.offset) (same k)) x }

module _ (f : Facts) (j : Join) (can : CanJoinPlaces f j) {i : ℕ} {new : List Place} (n : Joining j f.places i new) where
  pub can_raise : (d : Place) → i < length new → (get_or new i d).offset + j.by < 2 ^ 32
  can_raise d h = rw (get_or_default new i d (own_place i) h, n.left i (omega arith)) (can.raised_fits i (omega (arith, n.size)))

  pub joined_all : field_places ≤ i → state (record { places = new; noes = f.noes }) ≡ planned (state f) (plans.Join j)
  joined_all h = ap (λ c. record { classes = c; noes = (state f).noes }) (joining_all j f.places n h can.from_in)
