use lib.Dec.{lit≤}
use Rattle.table.specs.Laws.SoundBy.{zeros}
use Rattle.table.proofs.sound.tree_sound.Goals as goal

pub judged-requires : goal.judged-requires
judged-requires c = (c.requires.0, c.requires.1, record { none = zeros 129; marks_long = lit≤ tt; keys_long = lit≤ tt })
