-- The theorems of specs/Demands that are over any run of calls: what a run makes of a table, and that tables with the same clock and live cells reply alike.
use Rattle.std.specs.Prelude.{◌≡◌, ◌↔◌, List, ℤ, length}
use Rattle.std.proofs.Common.{sym, ◌∙◌}
use Rattle.track.specs.declared.cell.Cell.{Cell}
use Rattle.table.specs.Header.{capacity_word, clock}
use Rattle.table.specs.Sound.{Live}
use Rattle.alike.specs.Alike.{Alike}
use Rattle.promises.specs.Happens.{Call, Reply, told, Run, no_call, one_call}
use Rattle.promises.specs.Model.{Model, Together, after, after_all, Start}
use Rattle.promises.specs.Laws.Together.{start_together, call_together, run_length}
use Rattle.promises.specs.Laws.Same.{run_alike}

-- ---- table and model go together over any run
pub run_together : {m : Model} {w : List ℤ} {calls : List Call} {replies : List Reply} {u : List ℤ} → Together m w → Run w calls replies u → Together (after_all m calls replies) u
run_together {m} t no_call = t
run_together {m} t (one_call {c} {a} h run) = run_together {m = after m c (told a)} (call_together c a t h) run

-- ---- tables that runs reach
-- from two starts, where clock, live cells and capacity have come out the same
pub reached_alike : {m m' : Model} {v v' u u' : List ℤ} {calls calls' : List Call} {replies replies' : List Reply} → Start m v → Run v calls replies u → Start m' v' → Run v' calls' replies' u'
    → capacity_word u ≡ capacity_word u' → clock u ≡ clock u' → ((c : Cell) → Live u c ↔ Live u' c) → Alike u u'
reached_alike start run start' run' cells clocks live = record {
  sound = (run_together (start_together start) run).sound;
  sound' = (run_together (start_together start') run').sound;
  capacity_is = cells;
  clock_is = clocks;
  live = live;
}

-- After any calls from a fresh table or from a sheet that was read, refused ones among them, the table is sound and has the clock and the live cells of the model:
-- the cells that the last accepted call on each identifier left, as far as they have not expired.
pub after_any_calls : {m : Model} {v u : List ℤ} {calls : List Call} {replies : List Reply} → Start m v → Run v calls replies u → Together (after_all m calls replies) u
after_any_calls start run = run_together (start_together start) run

-- Two tables of one length, each after any calls from such a start, that have come to one capacity, one clock and the same live cells, reply alike to every further
-- run of calls, and are alike after it. The count of opened nodes is no part of a reply: it alone may differ, since the trees may.
pub same_cells_reply_alike : {m m' : Model} {v v' u u' t t' : List ℤ} {calls calls' further : List Call} {before before' replies replies' : List Reply}
    → Start m v → Run v calls before u → Start m' v' → Run v' calls' before' u'
    → length v ≡ length v' → capacity_word u ≡ capacity_word u' → clock u ≡ clock u' → ((c : Cell) → Live u c ↔ Live u' c)
    → Run u further replies t → Run u' further replies' t' → (replies ≡ replies') × Alike t t'
same_cells_reply_alike start run start' run' long cells clocks live =
    run_alike (reached_alike start run start' run' cells clocks live) (run_length run ∙ long ∙ sym (run_length run'))
