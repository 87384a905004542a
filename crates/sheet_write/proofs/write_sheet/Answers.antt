use native.Mathlib.Omega.{arith}
use Rattle.whole.specs.Laws.Tells.{passed, failed}
use Rattle.table.specs.Sound.{Sound}
use Rattle.sheet_write.specs.Laws.Passes.{counted_few}
use Rattle.sheet_write.specs.Laws.Written.{table_unsound, writes_short, writes_all}
use borrow.Author.Rules.{rules}
use Rattle.sheet_write.proofs.write_sheet.Goals as goal
use Rattle.sheet_write.proofs.write_sheet.Goals.{Else-not-is_sound}

sound : (c : Else-not-is_sound) → Sound c.args.t.now
sound c = passed c.is_sound.ensures c.if-not-is_sound.false

pub returns-then-not-is_sound : goal.returns-then-not-is_sound
returns-then-not-is_sound c = table_unsound (failed c.is_sound.ensures c.if-not-is_sound.true)

pub count_live-n-requires : goal.count_live-n-requires
count_live-n-requires c = sound (goal.at.count_live-n-requires c).Else-not-is_sound

pub total_for-total-requires : goal.total_for-total-requires
total_for-total-requires c = omega (arith, counted_few (sound (goal.at.total_for-total-requires c).Else-not-is_sound) c.count_live-n.ensures)

pub returns-then-bytes-total : goal.returns-then-bytes-total
returns-then-bytes-total c = writes_short (sound (goal.at.returns-then-bytes-total c).Else-not-is_sound) c.total_for-total.ensures c.count_live-n.ensures (search rules)

pub put_sheet-requires : goal.put_sheet-requires
put_sheet-requires c = record {
  sound = sound (goal.at.put_sheet-requires c).Else-not-is_sound;
  counted = c.count_live-n.ensures;
  room = omega (arith, c.total_for-total.ensures, c.if-bytes-total.false);
}

pub returns : goal.returns
returns c = writes_all (sound (goal.at.returns c).Else-not-is_sound) c.total_for-total.ensures (search rules) c.put_sheet.ensures
