use mathlib.Core.Path.{◌≡◌}
use Prim.Native.Nat.{◌+◌, ◌*◌, ◌^◌}
use lib.IntN.{pos, ◌+ℤ◌, ◌*ℤ◌}
use lib.ListN.{get_or}
use mir.Syntax.{w32, w64}
use mir.Val.{to_z, of_z}
use Rattle.whole.specs.Within.{Within}
use Rattle.whole.specs.Laws.Within.{any_in, add_in, mul_in, widen, fits, back, read_at, read64}
use Rattle.track.specs.Laws.Numbers.{minute_in}
use Rattle.node.specs.Laws.Pass.{column_edge, column_velocity}
use Rattle.node.proofs.worked.column_at.Goals as goal
use Rattle.node.proofs.worked.column_at.Goals.{Start, After-from-arg-1, After-from-first, After-from-arg-then-column-lt2-1, After-from, After-from-then-column-lt2}

-- the numbers that are read, and their ranges
module _ (c : After-from-arg-1) where
  abbrev s : Start
  s = c.before

  first_in : Within (2 ^ 31) (get_or s.args.row s.args.column (pos 0))
  first_in = any_in {w = w32} (record { sfits = c.from-arg-1.given })

first_is : (c : After-from-first) → let a = c.args in to_z w64 (of_z w64 c.from-first.result) ≡ get_or a.row a.column (pos 0)
first_is c =
    let a = c.args in
    simp (c.from-first.ensures, read_at w32 a.row a.column c.from-arg-1.given) (read64 tt (first_in c.before))

velocity_in : (c : After-from-arg-then-column-lt2-1) → let a = c.args in Within (2 ^ 31) (get_or a.row (a.column + 2) (pos 0))
velocity_in c = any_in {w = w32} (record { sfits = c.from-arg-then-column-lt2-1.given })

velocity_is : (c : After-from) → let a = c.args in to_z w64 (of_z w64 c.from.result) ≡ get_or a.row (a.column + 2) (pos 0)
velocity_is c =
    let a = c.args in
    simp (c.from.ensures, read_at w32 a.row (a.column + 2) c.from-arg-then-column-lt2-1.given) (read64 tt (velocity_in c.before))

minute_is : (c : After-from-then-column-lt2) → to_z w64 (of_z w64 c.from-then-column-lt2.result) ≡ c.args.minute
minute_is c =
    simp (c.from-then-column-lt2.ensures, back c.ranges.minute) (read64 tt (minute_in c.requires.1))

run_in : (c : After-from-then-column-lt2) → let a = c.args in Within (2 ^ 31 * 1440) (get_or a.row (a.column + 2) (pos 0) *ℤ a.minute)
run_in c = mul_in (velocity_in c.before.before) (minute_in c.requires.1)

edge_in : (c : After-from-then-column-lt2) → let a = c.args in Within (2 ^ 42) (get_or a.row a.column (pos 0) +ℤ get_or a.row (a.column + 2) (pos 0) *ℤ a.minute)
edge_in c = widen tt (add_in (first_in c.before.before.before.before.before) (run_in c))

run_is : (c : After-from-then-column-lt2) → let a = c.args in to_z w64 (of_z w64 (get_or a.row (a.column + 2) (pos 0) *ℤ a.minute)) ≡ get_or a.row (a.column + 2) (pos 0) *ℤ a.minute
run_is c = read64 tt (run_in c)

ruleset reads = (first_is, velocity_is, minute_is)

pub overflow_add-result : goal.overflow_add-result
overflow_add-result c = simp (reads, run_is (goal.at.overflow_add-result c).After-from-then-column-lt2) (fits tt (edge_in (goal.at.overflow_add-result c).After-from-then-column-lt2))

pub returns-then-column-lt2 : goal.returns-then-column-lt2
returns-then-column-lt2 c =
    let a = c.args in
    let law = column_edge a.column a.minute a.row c.if-column-lt2.true in
    simp (reads, run_is (goal.at.returns-then-column-lt2 c).After-from-then-column-lt2, read64 tt (edge_in (goal.at.returns-then-column-lt2 c).After-from-then-column-lt2)) (law, edge_in (goal.at.returns-then-column-lt2 c).After-from-then-column-lt2)

pub returns-else-column-lt2 : goal.returns-else-column-lt2
returns-else-column-lt2 c =
    let a = c.args in
    simp reads (column_velocity a.column a.minute a.row c.if-column-lt2.false, widen tt (first_in (goal.at.returns-else-column-lt2 c).After-from-arg-1))
