-- What a query answers and what it leaves in the lent list. The table is only read.
use Rattle.std.specs.Prelude.{◌≡◌, List, [], ◌∷◌, ◌++◌, ℕ, ℤ, length, drop, Result, Ok, Err}
use Rattle.track.specs.Query.{query_reasons}
use Rattle.track.specs.Refusals.{Reason, ◌when◌, First, number}
use Rattle.track.specs.declared.queries.Query.{Query}
use Rattle.table.specs.Header.{clock}
use Rattle.table.specs.Sound.{Sound}
use Rattle.query.specs.Opened.{opened_nodes}
use Rattle.query.specs.Hits.{Hits, MoreHits}
use Rattle.query.specs.declared.answer.NotListed.TheVariants.{TooMany, Refused}
use Rattle.query.specs.declared.answer.Found.{Found}
use Rattle.query.specs.declared.answer.NotListed.{NotListed}

-- each answer's number, hit count and count of opened nodes: 0 and the counts, or the refusal's number and zeros, but for 10 the hits as well
abbrev pub answer_number : Result Found NotListed → ℕ
answer_number (Ok f) = 0
answer_number (Err (TooMany n)) = 10
answer_number (Err (Refused r)) = number r

abbrev pub answer_hits : Result Found NotListed → ℕ
answer_hits (Ok f) = f.hits
answer_hits (Err (TooMany n)) = n
answer_hits (Err (Refused r)) = 0

abbrev pub answer_opened : Result Found NotListed → ℕ
answer_opened (Ok f) = f.opened
answer_opened (Err (TooMany n)) = 0
answer_opened (Err (Refused r)) = 0

-- why a query of the table w is refused, in the order in which it is tried. `Backward` is as in `query_reasons`
abbrev pub reasons : List ℤ → Type 0 → Query → List ℤ → List Reason
reasons w Backward q list = 1 when (Sound w → ⊥) ∷ (query_reasons (clock w) Backward q ++ (10 when (MoreHits w q (length list)) ∷ []))

-- an accepted query: the hits stand in the list's first places, and the others are as they were
pub record Lists (w : List ℤ) (q : Query) (list : List ℤ) (r : Result Found NotListed) (list' : List ℤ) : Type 0 where
  pub ids : List ℤ
  pub hits : Hits w q ids
  pub written : list' ≡ ids ++ drop (length ids) list
  pub hit_count : answer_hits r ≡ length ids
  pub opened_count : answer_opened r ≡ length (opened_nodes w q)

-- a query with too many hits: they are counted
pub record Counts (w : List ℤ) (q : Query) (r : Result Found NotListed) : Type 0 where
  pub ids : List ℤ
  pub hits : Hits w q ids
  pub hit_count : answer_hits r ≡ length ids

-- the answer r to the query q and the list that it leaves, where these reasons to refuse it are tried
pub record Answers (tried : List Reason) (w : List ℤ) (q : Query) (list : List ℤ) (r : Result Found NotListed) (list' : List ℤ) : Type 0 where
  pub refusal : First tried (answer_number r)
  pub accepted : answer_number r ≡ 0 → Lists w q list r list'
  pub counted : answer_number r ≡ 10 → Counts w q r
  pub unchanged : (answer_number r ≡ 0 → ⊥) → list' ≡ list

abbrev pub Queried : List ℤ → Type 0 → Query → List ℤ → Result Found NotListed → List ℤ → Type 0
Queried w Backward q list r list' = Answers (reasons w Backward q list) w q list r list'
