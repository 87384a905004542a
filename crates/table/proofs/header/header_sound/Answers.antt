use Rattle.std.proofs.Common.{arith}
use Rattle.std.proofs.lemmas.Grind.{common_steps}
use Rattle.whole.specs.Laws.Order.{le_z_tells}
use Rattle.whole.specs.Laws.Tells.{tells_as}
use Rattle.whole.specs.Laws.Within.{word_back}
use Rattle.table.proofs.header.header_sound.Goals as goal

pub returns-then-is_node : goal.returns-then-is_node
returns-then-is_node c =
    rw (word_back c.word-then-is_node.result c.word-then-is_node.type_inv, c.word-then-is_node.ensures)
    (tells_as le_z_tells (λ tall. record { capacity_in = grind (arith, common_steps, word_back); clock_in = grind (arith, common_steps, word_back); long_enough = grind (arith, common_steps); root_in = grind (arith, common_steps, word_back); height_in = tall }) (λ h. h.height_in))
