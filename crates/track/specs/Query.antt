-- What a query asks, and when it is refused. A window is a query whose second rectangle is its first.
use Rattle.std.specs.Prelude.{List, [], ◌∷◌, ◌⊎◌, ◌≡◌, ℤ, ◌≤ℤ◌, ◌<ℤ◌, Result, IfOk}
use Rattle.track.specs.Numbers.{IsMinute, IsPosition}
use Rattle.track.specs.Refusals.{Reason, ◌when◌, First, number_of}
use Rattle.track.specs.declared.queries.Edges.{Edges}
use Rattle.track.specs.declared.queries.Query.{Query}
use Rattle.track.specs.declared.refusal.Refusal.{Refusal}

-- the query from the first rectangle at the start to the second at the end
abbrev pub query_from : ℤ → ℤ → ℤ → ℤ → ℤ → ℤ → ℤ → ℤ → ℤ → ℤ → Query
query_from start end xlow xhigh ylow yhigh xlow2 xhigh2 ylow2 yhigh2 = record {
  start = record { at = start };
  end = record { at = end };
  x = record { low = xlow; high = xhigh; low2 = xlow2; high2 = xhigh2 };
  y = record { low = ylow; high = yhigh; low2 = ylow2; high2 = yhigh2 };
}

-- a window keeps to one rectangle
abbrev pub window_from : ℤ → ℤ → ℤ → ℤ → ℤ → ℤ → Query
window_from start end xlow xhigh ylow yhigh = query_from start end xlow xhigh ylow yhigh xlow xhigh ylow yhigh

-- the window that keeps to a query's first rectangle; its second is not looked at
abbrev pub still_edges : Edges → Edges
still_edges e = record { low = e.low; high = e.high; low2 = e.low; high2 = e.high }

abbrev pub still : Query → Query
still q = record { start = q.start; end = q.end; x = still_edges q.x; y = still_edges q.y }

pub record EdgesInRange (e : Edges) : Type 0 where
  pub low_in : IsPosition e.low
  pub high_in : IsPosition e.high
  pub low2_in : IsPosition e.low2
  pub high2_in : IsPosition e.high2

pub record QueryInRange (q : Query) : Type 0 where
  pub start_in : IsMinute q.start.at
  pub end_in : IsMinute q.end.at
  pub x_in : EdgesInRange q.x
  pub y_in : EdgesInRange q.y

-- a low edge above its high edge
abbrev pub Crossed : Edges → Type 0
Crossed e = (e.high <ℤ e.low) ⊎ (e.high2 <ℤ e.low2)

-- the one fact in which the refusals of a window and of a moving query differ: which of these speaks against it
abbrev pub EndsBeforeStart : Query → Type 0
EndsBeforeStart q = q.end.at <ℤ q.start.at

abbrev pub EndsByStart : Query → Type 0
EndsByStart q = q.end.at ≤ℤ q.start.at

-- why a query is refused at the clock. `Backward` is `EndsBeforeStart` for a window and `EndsByStart` for a moving query
abbrev pub query_reasons : ℤ → Type 0 → Query → List Reason
query_reasons clock Backward q =
    4 when (QueryInRange q → ⊥) ∷
    5 when (q.start.at <ℤ clock) ∷
    7 when (Backward ⊎ (Crossed q.x ⊎ Crossed q.y)) ∷
    []

-- the answer is the first refusal, or the query
pub record Asks (clock : ℤ) (Backward : Type 0) (q : Query) (answer : Result Query Refusal) : Type 0 where
  pub refusal : First (query_reasons clock Backward q) (number_of answer)
  pub query : IfOk answer (λ asked. asked ≡ q)
