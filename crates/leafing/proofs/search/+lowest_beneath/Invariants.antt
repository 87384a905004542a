-- the height, and then the entries left, fall
use Rattle.std.proofs.Common.{◌+◌, ◌-◌, ◌*◌}
use Rattle.leafing.proofs.search.+lowest_beneath.Given as goal

abbrev pub decreases-lowest_beneath : goal.decreases-lowest_beneath
decreases-lowest_beneath l = l.h * 16 + (8 - l.k)
