use Rattle.desk_serve.specs.Laws.Serving.{ends_without, ends_with}
use Rattle.desk_serve.proofs.serving.end.Goals as goal

pub returns-then-held-eq0 : goal.returns-then-held-eq0
returns-then-held-eq0 c = ends_without c.requires.line_room c.args.t.now c.args.out.now c.if-held-eq0.true

pub returns : goal.returns
returns c =
    ends_with c.requires.line_room c.requires.held_in c.if-held-eq0.false c.answer_held.ensures
