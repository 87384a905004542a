use Rattle.std.proofs.Common.{arith, ◌∙◌}
use Rattle.std.proofs.lemmas.Grind.{common_steps}
use Rattle.whole.specs.Laws.Tells.{tells_as}
use Rattle.whole.specs.Laws.Within.{word_back}
use Rattle.table.proofs.scan.stamp_sound.Goals as goal

pub returns-else-below-eq0 : goal.returns-else-below-eq0
returns-else-below-eq0 c =
    let stamp = word_back c.stamp-s.result c.stamp-s.type_inv ∙ c.stamp-s.ensures in
    let none = simp stamp at c.none_after.ensures in
    tells_as none (λ n. record { stamp_in = grind (arith, common_steps, word_back); stamped = grind (arith, common_steps, word_back); not_before = λ z. n }) (λ s. s.not_before c.if-below-eq0.false)
