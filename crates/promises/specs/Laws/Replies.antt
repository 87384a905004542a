-- What replies tell: the list of an accepted query, the hits where there are too many, sheets there and back; and replies in the numbers that a caller has.
use Rattle.std.specs.Prelude.{◌≡◌, refl, ◌↔◌, List, [], ◌++◌, ℕ, ◌≤◌, ℤ, pos, nat_abs, length, take, drop, Result, Ok, Err, IfOk}
use Rattle.std.proofs.Common.{sym, ap, ap₂, ◌∙◌, arith}
use Rattle.words.specs.Words.{nat_of}
use Rattle.track.specs.Life.{no_cell}
use Rattle.track.specs.Laws.Refusals.{not_zero, refused_not_zero}
use Rattle.track.specs.declared.cell.Cell.{Cell}
use Rattle.track.specs.declared.refusal.Refusal.TheVariants.{NoTrack}
use Rattle.track.specs.declared.queries.Query.{Query}
use Rattle.table.specs.Header.{IsCapacity, clock, words_for}
use Rattle.table.specs.Sound.{Sound, Live}
use Rattle.query.specs.Queried.{answer_number, answer_hits}
use Rattle.query.specs.Laws.Queried.{refused_opened}
use Rattle.query.specs.Opened.{opened_nodes}
use Rattle.query.specs.Hits.{Hits}
use Rattle.sheet.specs.Bytes.{AreBytes}
use Rattle.sheet.specs.Sheet.{total_for, cell_numbers}
use Rattle.sheet_write.specs.Written.{written_total}
use Rattle.wkt.specs.TrackRead.{ReadsAs}
use Rattle.wkt.specs.Laws.TrackRead.{read_track_fixed, read_accepted, none_read}
use Rattle.charting.specs.Charted.{Charts}
use Rattle.sheet_read.specs.Laws.ThereAndBack.{sheet_back_again, table_back_again}
use Rattle.calls.specs.TableCalls.{QueryGives}
use Rattle.calls.specs.SheetCalls.{WrittenInNumbers}
use Rattle.calls.specs.TrackCalls.{track_cell, ReadTrackGives}
use Rattle.promises.specs.Happens.{Call, Write, Chart, Read, Reply, Number, Listed, Given, Bytes, told, WasAsked, WasWritten, Happens, IsQuery, window, moving}
use Rattle.track.specs.declared.refusal.Refusal.{Refusal}
use Rattle.track.specs.Refusals.{number_of}

-- ---- queries
module _ {w : List ℤ} {B : Type 0} {q : Query} {list : List ℤ} {a : Reply} {v : List ℤ} (h : WasAsked w B q list a v) where
  number_is : {n : ℕ} → told a ≡ n → answer_number h.answer ≡ n
  number_is e = sym (ap told h.reply) ∙ e

  asked_lists : told a ≡ 0 → (ids : List ℤ) × Hits w q ids × (a ≡ Listed 0 (length ids) (ids ++ drop (length ids) list))
  asked_lists e =
      let l = h.queried.accepted (number_is e) in
      (l.ids, l.hits, h.reply ∙ ap (λ n. Listed n (answer_hits h.answer) h.list') (number_is e) ∙ ap₂ (Listed 0) l.hit_count l.written)

  asked_counts : told a ≡ 10 → (ids : List ℤ) × Hits w q ids × (a ≡ Listed 10 (length ids) list)
  asked_counts e =
      let c = h.queried.counted (number_is e) in
      let same = h.queried.unchanged (λ z. omega (arith, number_is e)) in
      (c.ids, c.hits, h.reply ∙ ap (λ n. Listed n (answer_hits h.answer) h.list') (number_is e) ∙ ap₂ (Listed 10) c.hit_count same)

module _ {w : List ℤ} {a : Reply} (v : List ℤ) where
  pub query_lists : {c : Call} {q : Query} {list : List ℤ} → IsQuery c q list → Happens w c a v → told a ≡ 0 → (ids : List ℤ) × Hits w q ids × (a ≡ Listed 0 (length ids) (ids ++ drop (length ids) list))
  query_lists window h e = asked_lists h e
  query_lists moving h e = asked_lists h e

  pub query_counts : {c : Call} {q : Query} {list : List ℤ} → IsQuery c q list → Happens w c a v → told a ≡ 10 → (ids : List ℤ) × Hits w q ids × (a ≡ Listed 10 (length ids) list)
  query_counts window h e = asked_counts h e
  query_counts moving h e = asked_counts h e

-- ---- sheets
abbrev pub total_told : Reply → ℕ
total_told (Number n) = 0
total_told (Listed n hits list) = 0
total_told (Given r) = 0
total_told (Bytes n total bytes) = total

abbrev bytes_told : Reply → List ℕ
bytes_told (Number n) = []
bytes_told (Listed n hits list) = []
bytes_told (Given r) = []
bytes_told (Bytes n total bytes) = bytes

pub written_back : {w u t v : List ℤ} {buffer bytes : List ℕ} {total : ℕ} {cells : ℤ} {a : Reply} → Sound w → Happens w (Write buffer) (Bytes 0 total bytes) u
    → IsCapacity cells → words_for (nat_of cells) ≤ length t → total ≤ total_for (nat_of cells)
    → Happens t (Read cells (take total bytes)) a v → (a ≡ Number 0) × (clock v ≡ clock w) × ((c : Cell) → Live v c ↔ Live w c)
written_back {bytes} {total} sound h capacity long room g =
    let total_is : total ≡ written_total h.written = ap total_told h.reply in
    let bytes-is : bytes ≡ h.bytes' = ap bytes_told h.reply in
    let back = table_back_again sound h.writes (sym (ap told h.reply)) capacity long (rw total_is at room) (rw (total_is, bytes-is) at g.reads) in
    (g.reply ∙ ap Number back.0, back.1, back.2)

pub read_back : {w v u : List ℤ} {cells : ℤ} {bytes buffer : List ℕ} {a : Reply} → AreBytes bytes → Happens w (Read cells bytes) (Number 0) v
    → length bytes ≤ length buffer → Happens v (Write buffer) a u → a ≡ Bytes 0 (length bytes) (bytes ++ drop (length bytes) buffer)
read_back small h room g =
    let back = sheet_back_again small h.reads (sym (ap told h.reply)) room g.writes in
    g.reply ∙ ap (λ (n : ℕ). Bytes n (written_total g.written) g.bytes') back.0 ∙ ap₂ (Bytes 0) back.1 back.2

-- ---- replies in the numbers that a caller has
pub asked_in_numbers : {w : List ℤ} {B : Type 0} {q : Query} {list : List ℤ} {r hits opened : ℤ} {list' : List ℤ} → QueryGives w B q list r hits opened list'
    → (n : ℕ) × (h : ℕ) × (r ≡ pos n) × (hits ≡ pos h) × WasAsked w B q list (Listed n h list') w
asked_in_numbers {list'} g =
    let a = g.answer in
    let n = g.in_numbers in
    (answer_number a, answer_hits a, n.number_is, n.hits_is, record { answer = a; list' = list'; reply = refl; queried = g.queried; unchanged = refl })

pub wrote_in_numbers : {w : List ℤ} {Writes : Result ℕ Refusal → List ℕ → Type 0} (a : Result ℕ Refusal) (bytes' : List ℕ) {r total : ℤ} → Writes a bytes' → WrittenInNumbers a r total
    → (n : ℕ) × (t : ℕ) × (r ≡ pos n) × (total ≡ pos t) × WasWritten w Writes (Bytes n t bytes') w
wrote_in_numbers a bytes' p n = (number_of a, written_total a, n.number_is, n.total_is, record { written = a; bytes' = bytes'; reply = refl; writes = p; unchanged = refl })

-- ---- tracks
pub fourteen_not_zero : pos 14 ≡ pos 0 → ⊥
fourteen_not_zero e = not_zero 13 (ap nat_abs e)

pub charted_is : {w u : List ℤ} {buffer bytes : List ℕ} {total : ℕ} → Happens w (Chart buffer) (Bytes 0 total bytes) u → Charts w buffer total bytes
charted_is {w} {buffer} {bytes} {total} h =
    let total_is : written_total h.written ≡ total = sym (ap total_told h.reply) in
    let bytes-is : h.bytes' ≡ bytes = sym (ap bytes_told h.reply) in
    rw (total_is, bytes-is) at (h.writes.accepted (sym (ap told h.reply)))

module _ {id r : ℤ} {line : List ℕ} {numbers : List ℤ} (g : ReadTrackGives id line r numbers) where
  -- a cell is read: 0 and its numbers
  pub track_given : {c : Cell} → ReadsAs id line c → (r ≡ pos 0) × (numbers ≡ cell_numbers c)
  track_given {c} a =
      let same = read_track_fixed g.read (Ok c) g.reads (read_accepted a) in
      (g.number_is ∙ ap (λ (t : Result Cell Refusal). pos (number_of t)) same, g.record_is ∙ ap (λ (t : Result Cell Refusal). cell_numbers (track_cell t)) same)

  -- none is: 14 and zeros
  pub track_refused : ((c : Cell) → ReadsAs id line c → ⊥) → (r ≡ pos 14) × (numbers ≡ cell_numbers no_cell)
  track_refused none =
      let same = read_track_fixed g.read (Err NoTrack) g.reads (none_read none) in
      (g.number_is ∙ ap (λ (t : Result Cell Refusal). pos (number_of t)) same, g.record_is ∙ ap (λ (t : Result Cell Refusal). cell_numbers (track_cell t)) same)

  -- 0 is given for a cell only
  pub track_accepted : r ≡ pos 0 → (c : Cell) × ReadsAs id line c × (numbers ≡ cell_numbers c)
  track_accepted e = by g.read g.reads.cell (ap nat_abs (sym g.number_is ∙ e)) g.record_is
    where
      by : (t : Result Cell Refusal) → IfOk t (λ c. ReadsAs id line c) → number_of t ≡ 0 → numbers ≡ cell_numbers (track_cell t) → (c : Cell) × ReadsAs id line c × (numbers ≡ cell_numbers c)
      by (Ok c) reads e is = (c, reads, is)
      by (Err why) reads e is = absurd (refused_not_zero why e)

-- the count of opened nodes, which is no part of a reply
pub opened_is : {w : List ℤ} {B : Type 0} {q : Query} {list : List ℤ} {r hits opened : ℤ} {list' : List ℤ} → QueryGives w B q list r hits opened list'
    → (r ≡ pos 0 → opened ≡ pos (length (opened_nodes w q))) × ((r ≡ pos 0 → ⊥) → opened ≡ pos 0)
opened_is g =
    let n = g.in_numbers in (
      λ e. n.opened_is ∙ ap pos (g.queried.accepted (ap nat_abs (sym n.number_is ∙ e))).opened_count,
      λ refused. n.opened_is ∙ ap pos (refused_opened g.answer (λ e. refused (n.number_is ∙ ap pos e))),
    )
