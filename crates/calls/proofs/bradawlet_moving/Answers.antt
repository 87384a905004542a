use mathlib.Core.Path.{◌≡◌}
use Rattle.whole.specs.Laws.Within.{back, word_back}
use Rattle.track.specs.Query.{query_from}
use Rattle.query.specs.Laws.Few.{answer_few}
use Rattle.calls.proofs.bradawlet_moving.Goals as goal
use Rattle.calls.proofs.bradawlet_moving.Goals.{After-query_from-q}

-- the query, in the arguments' names
query_is : (c : After-query_from-q) → let a = c.args in c.query_from-q.result ≡ query_from a.start a.end a.xlow a.xhigh a.ylow a.yhigh a.xlow2 a.xhigh2 a.ylow2 a.yhigh2
query_is c = let f = c.ranges in simp (back, f.start, f.end, f.xlow, f.xhigh, f.ylow, f.yhigh, f.xlow2, f.xhigh2, f.ylow2, f.yhigh2) at c.query_from-q.ensures

pub in_numbers-requires : goal.in_numbers-requires
in_numbers-requires c = answer_few c.moving-answer.ensures

pub returns : goal.returns
returns c =
    record {
      answer = c.moving-answer.result;
      queried = rw (query_is (goal.at.returns c).After-query_from-q) at c.moving-answer.ensures;
      in_numbers = rw (word_back c.in_numbers.result c.in_numbers.type_inv) c.in_numbers.ensures;
    }
