use Rattle.whole.specs.Laws.Within.{word_back}
use Rattle.table.specs.Laws.Headed.{rooted}
use Rattle.table.proofs.header.set_root.Goals as goal

pub returns : goal.returns
returns c =
    let n = c.word_of in
    let m = c.word_of-2 in
    rw (word_back n.result n.type_inv, word_back m.result m.type_inv, n.ensures, m.ensures) (rooted c.args.t.now c.args.root c.args.height c.requires.0)
