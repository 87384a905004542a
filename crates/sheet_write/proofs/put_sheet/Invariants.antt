-- the range stands at the next record's place, and the cells before it are passed
use Rattle.std.proofs.Common.{◌≡◌}
use Rattle.sheet_write.specs.Laws.Passes.{Putting}
use Rattle.sheet_write.proofs.put_sheet.Given as goal

abbrev pub invariant-loop-k : goal.invariant-loop-k
invariant-loop-k l =
    let places = l.k-iterator.a in
    let cells = l.k-iterator.b in
    (places.end ≡ l.n) × (cells.table.now ≡ l.t) × Putting l.t l.fn.bytes l.n cells.last places.start l.bytes
