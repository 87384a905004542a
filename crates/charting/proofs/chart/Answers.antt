use native.Mathlib.Omega.{arith}
use Rattle.whole.specs.Laws.Tells.{passed, failed}
use Rattle.table.specs.Sound.{Sound}
use Rattle.sheet_write.specs.Laws.Written.{table_unsound}
use Rattle.charting.specs.Laws.Charted.{charts_short, charts_all}
use Rattle.charting.proofs.chart.Goals as goal
use Rattle.charting.proofs.chart.Goals.{Else-not-is_sound}

sound : (c : Else-not-is_sound) → Sound c.args.t.now
sound c = passed c.is_sound.ensures c.if-not-is_sound.false

pub returns-then-not-is_sound : goal.returns-then-not-is_sound
returns-then-not-is_sound c = table_unsound (failed c.is_sound.ensures c.if-not-is_sound.true)

pub measure-total-requires : goal.measure-total-requires
measure-total-requires c = sound (goal.at.measure-total-requires c).Else-not-is_sound

pub returns-then-bytes-total : goal.returns-then-bytes-total
returns-then-bytes-total c = charts_short (sound (goal.at.returns-then-bytes-total c).Else-not-is_sound) c.measure-total.ensures (omega (arith, c.if-bytes-total.true))

pub put_lines-requires : goal.put_lines-requires
put_lines-requires c = record { sound = sound (goal.at.put_lines-requires c).Else-not-is_sound; all = c.measure-total.ensures; room = omega (arith, c.if-bytes-total.false) }

pub returns : goal.returns
returns c = charts_all (sound (goal.at.returns c).Else-not-is_sound) c.put_lines.ensures
