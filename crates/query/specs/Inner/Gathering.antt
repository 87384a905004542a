-- From the walk to the hits: the keys that it gathers, once they are sorted, are the identifiers that the query lists.
use Rattle.std.specs.Prelude.{◌≡◌, List, map, ℕ, ◌≤◌, ℤ, pos, length, take, ◌≤ℤ◌}
use Rattle.track.specs.Query.{QueryInRange}
use Rattle.track.specs.declared.queries.Query.{Query}
use Rattle.table.specs.Header.{clock}
use Rattle.table.specs.Sound.{Sound}
use Rattle.query.specs.Opened.{opened_nodes}
use Rattle.query.specs.Hits.{Hits}
use Rattle.query.specs.declared.answer.Found.{Found}

-- a sound table may be asked the query
pub record CanAsk (w : List ℤ) (q : Query) : Type 0 where
  pub sound : Sound w
  pub query_in : QueryInRange q
  pub due : clock w ≤ℤ q.start.at

-- the first keys are the hits
pub record Gathered (w : List ℤ) (q : Query) (r : Found) (keys : List ℕ) : Type 0 where
  pub opened : r.opened ≡ length (opened_nodes w q)
  pub inside : r.hits ≤ length keys
  pub hits : Hits w q (map pos (take r.hits keys))
