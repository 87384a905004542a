use Rattle.std.proofs.Common.{◌≡◌, refl, ◌∙◌, ⊎_elim, arith}
use Rattle.std.specs.Int.{w32}
use mir.Val.{to_z, of_z}
use Rattle.whole.specs.Laws.Within.{word_back}
use Rattle.words.specs.Parts.{put}
use Rattle.table.specs.Header.{clock}
use Rattle.sheet.specs.Sheet.{header_bytes, header_of}
use Rattle.leafing.specs.Laws.LiveStep.{same_words}
use Rattle.sheet_write.specs.Laws.Passes.{counted_few, putting_none, record_fits, putting_next, putting_ends, putting_all}
use Rattle.sheet_write.proofs.put_sheet.Goals as goal

pub put_header-requires : goal.put_header-requires
put_header-requires c = let can = c.requires in (omega (arith, counted_few can.sound can.counted), omega (arith, can.room))

pub loop-k-init : goal.loop-k-init
loop-k-init c =
    let clock_is : to_z w32 (of_z w32 c.clock.result) ≡ clock c.args.t.now = word_back c.clock.result c.clock.type_inv ∙ c.clock.ensures in
    let headed : c.put_header.new.bytes ≡ put c.args.bytes.now 0 header_bytes (header_of (clock c.args.t.now) c.args.n) = rw clock_is at c.put_header.ensures in
    let zip = c.zip-k-items.ensures in
    rw (c.into_iter-k-iterator.ensures.into_iter_gives, zip.first, zip.second, c.of.ensures.same_table, c.of.ensures.from_start) (refl, refl, putting_none c.requires headed)

pub put_record-requires : goal.put_record-requires
put_record-requires c =
    let inv = c.loop-k.invariant in
    let place = c.in-Some.ensures.steps.0 in
    rw place.1.1 (record_fits c.requires inv.2 (omega (arith, inv.0, place.1.0)))

pub loop-k-preserved : goal.loop-k-preserved
loop-k-preserved c =
    let inv = c.loop-k.invariant in
    let (place, step) = c.in-Some.ensures.steps in
    let written = putting_next c.requires inv.2 (omega (arith, inv.0, place.1.0)) _ (rw inv.1 at step.next) (rw place.1.1 at c.put_record.ensures) in
    (place.0 ∙ inv.0, same_words step ∙ inv.1, rw (place.1.2, step.goes_on) written)

pub returns : goal.returns
returns c =
    let inv = c.loop-k.invariant in
    let can = c.requires in
    putting_all can inv.2 (⊎_elim (λ range. omega (arith, inv.0, range.1.1.0)) (λ cells. putting_ends can inv.2 (rw inv.1 at cells.1.next)) c.in-None.ensures.steps)
