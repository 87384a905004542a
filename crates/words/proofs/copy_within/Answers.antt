use mathlib.Core.Path.{refl}
use borrow.Author.Rules.{rules}
use lib.IntN.{pos}
use Rattle.words.specs.Parts.{part}
use Rattle.words.proofs.Runs.{written_none, written_all, copied_next}
use Rattle.words.proofs.copy_within.Goals as goal

pub loop-j-init : goal.loop-j-init
unfolding part
loop-j-init c = written_none refl

pub loop-j-preserved : goal.loop-j-preserved
loop-j-preserved c =
    copied_next c.requires c.loop-j.invariant (pos 0) _ (search rules) (search rules)

pub returns : goal.returns
returns c = written_all c.loop-j.invariant (search rules)
