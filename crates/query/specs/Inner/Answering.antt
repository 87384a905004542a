-- From the gathered hits to the answer: one law for each way through the code.
use Rattle.std.specs.Prelude.{◌≡◌, List, [], ◌∷◌, ℤ, pos, length, ◌≤ℤ◌, Result, Ok, Err, IfOk}
use Rattle.track.specs.Accepted.{TakenInRange}
use Rattle.track.specs.Query.{query_from}
use Rattle.track.specs.Refusals.{Reason, ◌when◌, number_of}
use Rattle.track.specs.declared.queries.Query.{Query}
use Rattle.table.specs.Header.{clock}
use Rattle.table.specs.Sound.{Sound}
use Rattle.query.specs.Hits.{MoreHits}
use Rattle.track.specs.declared.refusal.Refusal.{Refusal}

-- ---- the answer to a query that may be asked
abbrev pub too_many : List ℤ → Query → List ℤ → List Reason
too_many w q list = 10 when MoreHits w q (length list) ∷ []

-- ---- the answer to a query that was judged before
-- the query, all zeros where it was refused
abbrev pub asked_query : Result Query Refusal → Query
asked_query (Ok q) = q
asked_query (Err why) = query_from (pos 0) (pos 0) (pos 0) (pos 0) (pos 0) (pos 0) (pos 0) (pos 0) (pos 0) (pos 0)

abbrev pub judged_reasons : List ℤ → Result Query Refusal → List ℤ → List Reason
judged_reasons w a list = 1 when (Sound w → ⊥) ∷ number_of a when (number_of a ≡ 0 → ⊥) ∷ too_many w (asked_query a) list

-- it was judged at the table's clock
pub record JudgedAtClock (w : List ℤ) (a : Result Query Refusal) : Type 0 where
  pub query_in : TakenInRange a
  pub due : IfOk a (λ q. clock w ≤ℤ q.start.at)
  pub not_ten : number_of a ≡ 10 → ⊥
