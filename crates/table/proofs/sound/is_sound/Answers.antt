use Rattle.whole.specs.Laws.Tells.{tells_false, failed}
use Rattle.table.specs.Laws.SoundBy.{header_is_sound, root_of}
use Rattle.table.proofs.sound.is_sound.Goals as goal
use Rattle.table.proofs.sound.is_sound.Goals.{then-header_sound, else-header_sound}

pub returns-else-root_sound : goal.returns-else-root_sound
returns-else-root_sound c =
    rw c.if-root_sound.false
    (elim c.if-header_sound.branch [
      | then-header_sound w ↦ tells_false (λ s. failed w.root_sound.ensures (cc) (root_of _ s))
      | else-header_sound w ↦ tells_false (λ s. failed c.header_sound.ensures w.if-header_sound.false (header_is_sound _ s))
    ])
