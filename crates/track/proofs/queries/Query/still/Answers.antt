use Rattle.track.proofs.queries.Query.still.Goals as goal

pub returns : goal.returns
returns c = rw (c.still.ensures, c.still-2.ensures)
