use Rattle.std.proofs.Common.{add-zero}
use Rattle.words.specs.Laws.Words.{row_at_rest}
use Rattle.words.proofs.rows.Goals as goal

pub returns : goal.returns
returns c =
    let w = c.args.t.now in
    let at = c.args.at in
    rw (c.row.ensures, c.row-2.ensures, c.from_place-rest.ensures, row_at_rest w at 0, row_at_rest w at 4, add-zero)
