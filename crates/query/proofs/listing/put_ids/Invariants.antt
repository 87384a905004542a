use Rattle.std.proofs.Common.{◌≡◌, map, pos}
use Rattle.std.proofs.Math.Seq.{paste}
use Rattle.query.proofs.listing.put_ids.Given as goal

abbrev pub invariant-loop-j : goal.invariant-loop-j
invariant-loop-j l = l.list ≡ paste l.initial.list 0 (map pos l.key-items) l.j
