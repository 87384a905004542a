-- A query judged by a flag that tells whether it goes backward.
use Rattle.std.specs.Prelude.{Bool, refl, T, ℤ, Result}
use Rattle.std.proofs.Common.{inl, inr, ⊎_elim}
use mathlib.Core.Logic.Iff
use Rattle.whole.specs.Tells.{Tells}
use Rattle.track.specs.Refusals.{number_of}
use Rattle.track.specs.Laws.Refusals.{first_as}
use Rattle.track.specs.Query.{query_reasons, Asks}
use Rattle.track.specs.declared.queries.Query.{Query}
use Rattle.track.specs.declared.refusal.Refusal.{Refusal}

-- a flag that tells that it is backward
pub asks_as : {clock : ℤ} {b : Bool} {Backward : Type 0} {q : Query} {r : Result Query Refusal} → Tells b Backward → Asks clock (T b) q r → Asks clock Backward q r
asks_as {clock} {b} {Backward} {q} {r} told a = record {
  refusal =
      first_as (query_reasons clock (T b) q) (query_reasons clock Backward q) (number_of r)
      (refl, Iff.rfl, (refl, Iff.rfl, (refl, (⊎_elim (λ p. inl (told.sure p)) inr, ⊎_elim (λ p. inl (told.seen p)) inr), tt)))
      a.refusal;
  query = a.query;
}
