use native.Mathlib.Omega.{arith}
use Rattle.whole.specs.Laws.Within.{word_back}
use Rattle.charting.specs.Laws.Charted.{charted_few}
use Rattle.calls.proofs.tracks.bradawlet_tracks.Goals as goal

pub written_in_numbers-requires : goal.written_in_numbers-requires
written_in_numbers-requires c = record { small = omega (arith, charted_few _ c.chart-written.ensures) }

pub returns : goal.returns
returns c = record {
  written = c.chart-written.result;
  charts = c.chart-written.ensures;
  in_numbers = rw (word_back c.written_in_numbers.result c.written_in_numbers.type_inv) c.written_in_numbers.ensures;
}
