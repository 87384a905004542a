-- What spelling a query's answer asks of the list.
use Rattle.std.specs.Prelude.{List, ◌≤◌, ℤ, length, Result, IfOk}
use Rattle.query.specs.declared.answer.Found.{Found}
use Rattle.query.specs.declared.answer.NotListed.{NotListed}

-- the list has the hits of an accepted query
abbrev pub InList : Result Found NotListed → List ℤ → Type 0
InList answer list = IfOk answer (λ f. f.hits ≤ length list)
