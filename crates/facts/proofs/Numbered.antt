-- A list that has each field's own place at its number stands for no facts.
use Prim.Native.Nat.{ℕ}
use mathlib.Core.Path.{◌≡◌, ap, fun_ext}
use mathlib.Core.List.{List, []}
use native.Mathlib.Omega.{arith}
use native.Mathlib.Decide.{dec_le}
use denote.Param.Members.{Mut}
use lib.ListN.{get_or}
use Rattle.std.specs.Fn.{Called}
use Rattle.std.specs.Array.{IsFromFnResult}
use Rattle.std.proofs.lemmas.List.{get_or_past}
use Rattle.facts.specs.declared.place.Place.{Place}
use Rattle.facts.specs.declared.noes.Noes.{Noes}
use Rattle.facts.specs.Record.{questions_in, state, field_places, own_place}
use Rattle.facts.specs.State.{start}

pub numbered_start : {F : Type 0} {g : Mut F (ℕ × Unit {0}) Place} {f : F} {places : List Place} (noes : Noes) → IsFromFnResult g f places field_places
    → ((p q : F) (i : ℕ) (x : Place) → Called g p (i, tt) x q → x ≡ own_place i)
    → questions_in noes ≡ [] → state (record { places = places; noes = noes }) ≡ start
numbered_start {places = places} noes n each none = λ j. record {
  classes = record { class = fun_ext (λ k. ap (λ (p : Place). p.class) (own k)) j; offset = fun_ext (λ k. ap (λ (p : Place). p.offset) (own k)) j };
  noes = none j;
}
  where
    own : (k : ℕ) → get_or places k (own_place k) ≡ own_place k
    own k = elim (dec_le field_places k) [
      | yes l ↦ get_or_past places k (own_place k) (omega (arith, n.long))
      | no l ↦ let at = n.at k (own_place k) (omega arith) in each at.0 at.1 k _ at.2
    ]
