use native.Mathlib.Omega.{arith}
use Rattle.whole.specs.Laws.Within.{word_back}
use Rattle.sheet_write.specs.Laws.Written.{written_few}
use Rattle.calls.proofs.sheets.bradawlet_write.Goals as goal

pub written_in_numbers-requires : goal.written_in_numbers-requires
written_in_numbers-requires c = record { small = omega (arith, written_few _ c.write_sheet-written.ensures) }

pub returns : goal.returns
returns c = record {
  written = c.write_sheet-written.result;
  writes = c.write_sheet-written.ensures;
  in_numbers = rw (word_back c.written_in_numbers.result c.written_in_numbers.type_inv) c.written_in_numbers.ensures;
}
