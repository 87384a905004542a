use Rattle.std.proofs.Common.{◌≤◌, ◌∙◌, rules, arith}
use Rattle.whole.specs.Laws.Within.{word_back}
use Rattle.words.specs.Parts.{part}
use Rattle.words.specs.Laws.Parts.{lent-part, length_part}
use Rattle.decimal.specs.Spells.{Digits}
use Rattle.decimal.specs.Laws.DigitRuns.{value_below}
use Rattle.decimal.specs.Laws.NumberRead.{wrong_count, enough}
use Rattle.decimal.proofs.reading.digits.Goals as goal
use Rattle.decimal.proofs.reading.digits.Goals.{Else-not-contains, After-value}

pub returns-then-not-contains : goal.returns-then-not-contains
returns-then-not-contains c = wrong_count c.args.line.now c.args.at c.count_digits-n.ensures (λ right. grind arith)

right : (c : Else-not-contains) → (1 ≤ c.count_digits-n.result) × (c.count_digits-n.result ≤ 9)
right c = search rules

pub value-requires : goal.value-requires
value-requires c =
    let run = c.count_digits-n.ensures in
    let r = right (goal.at.value-requires c).Else-not-contains in
    rw (lent-part c.args.line.now c.args.at c.count_digits-n.result) (omega (arith, length_part c.args.line.now c.args.at c.count_digits-n.result run.inside), run.digits)

read : (c : After-value) → Digits c.value.result (part c.args.line.now c.args.at c.count_digits-n.result)
read c = rw (lent-part c.args.line.now c.args.at c.count_digits-n.result) at c.value.ensures

pub word_of-requires : goal.word_of-requires
word_of-requires c =
    let r = right (goal.at.word_of-requires c).Else-not-contains in
    omega (arith, value_below 9 (read (goal.at.word_of-requires c).After-value) (omega (arith, length_part c.args.line.now c.args.at c.count_digits-n.result c.count_digits-n.ensures.inside)))

pub returns : goal.returns
returns c =
    enough c.args.line.now c.args.at c.count_digits-n.ensures (right (goal.at.returns c).Else-not-contains) (read (goal.at.returns c).After-value)
    (word_back c.word_of.result c.word_of.type_inv ∙ c.word_of.ensures)
