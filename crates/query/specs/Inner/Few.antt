-- The counts of an answer are small: no more hits than a table holds cells, no more opened nodes than it has.
use Rattle.std.specs.Prelude.{◌≤◌, Result}
use Rattle.table.specs.Header.{greatest_capacity, nodes_for}
use Rattle.query.specs.Queried.{answer_hits, answer_opened}
use Rattle.query.specs.declared.answer.Found.{Found}
use Rattle.query.specs.declared.answer.NotListed.{NotListed}

pub record Few (r : Result Found NotListed) : Type 0 where
  pub few_hits : answer_hits r ≤ greatest_capacity
  pub few_opened : answer_opened r ≤ nodes_for greatest_capacity
