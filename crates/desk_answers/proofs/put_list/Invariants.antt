use Rattle.std.proofs.Common.{◌+◌, ◌*◌, ◌≤◌, take}
use Rattle.desk_answers.specs.AnswerLines.{Spaced}
use Rattle.decimal.specs.Inner.PutBytes.{Put}
use Rattle.desk_answers.proofs.put_list.Given as goal

abbrev pub invariant-loop-id : goal.invariant-loop-id
invariant-loop-id l = (l.end ≤ l.at + 11 * l.id-index) × Put (Spaced (take l.id-index l.list)) l.initial.out l.at l.out l.end
