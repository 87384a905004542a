use mathlib.Core.Path.{◌≡◌, ap, ◌∙◌}
use Prim.Native.Nat.{ℕ}
use native.Mathlib.Omega.{arith}
use lib.ListN.{length, set, length-set}
use Rattle.std.proofs.Common.{Some}
use Rattle.whole.specs.Laws.Tells.{tells_false, tells_as, passed, failed}
use Rattle.whole.specs.Laws.Within.{word_back}
use Rattle.table.specs.Header.{capacity, clock, root, height, entries_at, nodes_for}
use Rattle.table.specs.Inner.Scan.{PassOutcome, NodeCounted, Passes, Leaves}
use Rattle.table.specs.Inner.SoundBy.{RootMarked}
use Rattle.table.specs.Laws.SoundBy.{root_below, root-marked, ready_root, few_cells, passes_of, free_of, keys_of, sound_of}
use Rattle.table.proofs.sound.judged.Goals as goal
use Rattle.table.proofs.sound.judged.Goals.{After-pass}

-- what the pass came to, with the table's own numbers
outcome : (c : After-pass) → let w = c.args.t.now in
    PassOutcome (entries_at w) (NodeCounted w) (capacity w) (clock w) (height w) (entries_at w (root w)) (set c.args.marks.now (root w) 1) c.args.keys.now 0 c.pass.result c.pass.new.marks c.pass.new.keys
outcome c =
    simp (word_back c.clock.result c.clock.type_inv ∙ c.clock.ensures, c.capacity-cells.ensures.0, c.root-i.ensures.0, c.height.ensures.0) at c.pass.ensures

marks_kept : (c : After-pass) → length c.pass.new.marks ≡ length c.args.marks.now
marks_kept c = (outcome c).marks_kept ∙ length-set c.args.marks.now (root c.args.t.now) 1

marked : (c : After-pass) → RootMarked c.args.t.now (set c.args.marks.now (root c.args.t.now) 1)
marked c = root-marked c.requires.0 c.requires.2

-- a pass that counted m cells
went : (c : After-pass) (m : ℕ) → c.pass.result ≡ Some m → let w = c.args.t.now in
    Passes (entries_at w) (NodeCounted w) (capacity w) (clock w) (height w) (entries_at w (root w)) (set c.args.marks.now (root w) 1) 0
    × Leaves (entries_at w) (height w) (entries_at w (root w)) (set c.args.marks.now (root w) 1) c.args.keys.now 0 m c.pass.new.marks c.pass.new.keys
went c m is = (outcome c).pass m is

pub bounds-marks-i : goal.bounds-marks-i
bounds-marks-i c = rw c.root-i.ensures.0 (root_below c.requires.0 c.requires.2)

pub pass-requires : goal.pass-requires
pass-requires c = simp (c.capacity-cells.ensures.0, c.root-i.ensures.0) (ready_root c.requires.0 c.requires.2)

pub rest_free-requires : goal.rest_free-requires
rest_free-requires c =
    let cells = c.capacity-cells.ensures.0 in
    (c.nodes_for.ensures ∙ ap nodes_for cells, c.requires.0.long_enough, omega (arith, cells, few_cells c.requires.0 c.requires.2, c.requires.2.marks_long, marks_kept (goal.at.rest_free-requires c).After-pass))

pub slice_bounds-distinct-end : goal.slice_bounds-distinct-end
slice_bounds-distinct-end c =
    let pass = (goal.at.slice_bounds-distinct-end c).After-pass in
    let p = went pass c.in-Some.m c.in-Some.is in
    omega (arith, p.0.room, p.1.more, few_cells c.requires.0 c.requires.2, c.requires.2.keys_long, (outcome pass).keys_kept)

pub returns-then-rest_free : goal.returns-then-rest_free
returns-then-rest_free c =
    let pass = (goal.at.returns-then-rest_free c).After-pass in
    let p = went pass c.in-Some.m c.in-Some.is in
    let free = passed c.rest_free.ensures c.if-rest_free.true in
    tells_as c.distinct.ensures.tells
    (sound_of c.args.t.now _ (marked pass) _ _ _ _ p.0 p.1 c.requires.0 c.requires.1 free)
    (keys_of c.args.t.now _ (marked pass) _ _ _ _ p.0 p.1)

pub returns-else-rest_free : goal.returns-else-rest_free
returns-else-rest_free c =
    let pass = (goal.at.returns-else-rest_free c).After-pass in
    let p = went pass c.in-Some.m c.in-Some.is in
    rw c.if-rest_free.false (tells_false (λ k. failed c.rest_free.ensures c.if-rest_free.false (free_of c.args.t.now _ (marked pass) _ _ _ _ p.0 p.1 k)))

pub returns-in-None : goal.returns-in-None
returns-in-None c =
    let pass = (goal.at.returns-in-None c).After-pass in
    tells_false (λ k. (outcome pass).fail c.in-None.is (passes_of c.args.t.now _ (marked pass) k))
