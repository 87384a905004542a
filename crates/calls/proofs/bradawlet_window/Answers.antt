use mathlib.Core.Path.{◌≡◌}
use Rattle.whole.specs.Laws.Within.{back, word_back}
use Rattle.track.specs.Query.{window_from}
use Rattle.query.specs.Laws.Few.{answer_few}
use Rattle.calls.proofs.bradawlet_window.Goals as goal
use Rattle.calls.proofs.bradawlet_window.Goals.{After-window_from-q}

-- the query, in the arguments' names
query_is : (c : After-window_from-q) → let a = c.args in c.window_from-q.result ≡ window_from a.start a.end a.xlow a.xhigh a.ylow a.yhigh
query_is c = let f = c.ranges in simp (back, f.start, f.end, f.xlow, f.xhigh, f.ylow, f.yhigh) at c.window_from-q.ensures

pub in_numbers-requires : goal.in_numbers-requires
in_numbers-requires c = answer_few c.window-answer.ensures

pub returns : goal.returns
returns c =
    record {
      answer = c.window-answer.result;
      queried = rw (query_is (goal.at.returns c).After-window_from-q) at c.window-answer.ensures;
      in_numbers = rw (word_back c.in_numbers.result c.in_numbers.type_inv) c.in_numbers.ensures;
    }
