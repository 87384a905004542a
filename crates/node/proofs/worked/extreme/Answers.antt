use mathlib.Core.Path.{sym, ◌∙◌}
use Prim.Native.Nat.{◌<◌}
use native.Mathlib.Omega.{arith}
use borrow.Author.Rules.{rules}
use Rattle.whole.specs.Laws.Within.{back, lit_in, read64}
use Rattle.words.specs.Layout.{full_node}
use Rattle.node.specs.Laws.Entry.{count_fits}
use Rattle.node.specs.Inner.Pass.{outer, reading_of}
use Rattle.node.specs.Laws.Pass.{passed_none, passed_first, passed_next, passed_all, outer_in}
use Rattle.node.proofs.worked.extreme.Goals as goal

pub returns-then-n-eq0 : goal.returns-then-n-eq0
returns-then-n-eq0 c =
    let a = c.args in
    let none = passed_none (outer a.column) (reading_of a.leaf a.axis a.column a.stamp) a.node.now (sym c.count-n.ensures ∙ c.if-n-eq0.true) in
    (none, lit_in 0 tt)

pub loop-k-init : goal.loop-k-init
loop-k-init c =
    let told = c.reading-found.ensures in
    simp (read64 tt told.1) (passed_first (search rules) told.0, told.1)

pub reading-requires : goal.reading-requires
reading-requires c =
    let low : c.loop-k.k < full_node = omega (arith, count_fits c.args.node.now) in
    simp (back c.ranges.stamp) (low, c.requires.0, c.requires.1, c.requires.2)

pub loop-k-preserved : goal.loop-k-preserved
loop-k-preserved c =
    let a = c.args in
    let inv = c.loop-k.invariant in
    let told = c.reading.ensures in
    let e = simp (read64 tt told.1) at c.outer-found.ensures in
    let small = outer_in a.column inv.1 told.1 in
    simp (e, read64 tt small) (passed_next inv.0 (search rules) (rw told.0), small)

pub returns : goal.returns
returns c =
    let inv = c.loop-k.invariant in
    (simp (back c.ranges.stamp) at (passed_all inv.0 (search rules)), inv.1)
