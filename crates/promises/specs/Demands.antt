-- The three demands, each in our words above the theorems that carry it, and what the later requests ask to be shown. `Happens w c a v` is what the contracts promise of a call: on the words w the call c
-- replies a and leaves the words v. The definitions are in `Happens` (calls, replies, runs, refusals) and `Model` (a plain model of a table), and in the crates that
-- these cite; the laws that the proofs cite are in the other files.
use Rattle.std.specs.Prelude.{◌≡◌, refl, ◌⊎◌, ◌↔◌, List, ◌∷◌, ◌++◌, ℕ, ◌*◌, ◌≤◌, ℤ, pos, nat_abs, length, take, drop, ◌<ℤ◌, Option, None}
use Rattle.std.proofs.Common.{sym, ap, ◌∙◌, subst}
use Rattle.whole.specs.Lists.{◌∈◌}
use Rattle.words.specs.Words.{nat_of}
use Rattle.track.specs.Numbers.{IsMinute}
use Rattle.track.specs.Life.{identifier, no_cell, LivesAt, CellInRange}
use Rattle.track.specs.Refusals.{First, Gives, number_of}
use Rattle.track.specs.Laws.Refusals.{first_fixed}
use Rattle.track.specs.Laws.Life.{lives_at_start}
use Rattle.track.specs.declared.cell.Cell.{Cell}
use Rattle.track.specs.declared.queries.Query.{Query}
use Rattle.track.specs.declared.report.Report as track
use Rattle.table.specs.Header.{IsCapacity, capacity_word, clock, words_for}
use Rattle.table.specs.Sound.{held, Sound, Live}
use Rattle.query.specs.Hits.{Hits}
use Rattle.query.specs.Opened.{opened_nodes}
use Rattle.leafing.specs.NextLive.{opening_reasons}
use Rattle.leafing.specs.Leafed.{LiveCells}
use Rattle.leafing.specs.Laws.NextLive.{same_by}
use Rattle.leafing.specs.Laws.LiveCells.{live_in_range}
use Rattle.sheet.specs.Bytes.{AreBytes}
use Rattle.sheet.specs.Sheet.{total_for, cell_numbers}
use Rattle.wkt.specs.TrackLine.{PointForm, LineOf}
use Rattle.wkt.specs.TrackRead.{ReadsAs, track_reasons}
use Rattle.wkt.specs.declared.point.Point.{Point}
use Rattle.wkt.specs.Laws.TrackLine.{line_length}
use Rattle.wkt.specs.Laws.TrackRead.{gives_in_range, track_back, line_back, point_not_read}
use Rattle.charting.specs.Charted.{TextOf, LineStringsOf}
use Rattle.charting.specs.Laws.Charted.{charted_within}
use Rattle.charting.specs.Laws.NeverAPoint.{never_a_point, point_nowhere}
use Rattle.tree.specs.Laws.Steps.{step_leaves_what_lives}
use Rattle.alike.specs.Alike.{Alike}
use Rattle.calls.specs.TableCalls.{FreshGives, QueryGives, WindowGives, MovingGives}
use Rattle.calls.specs.ChangeCalls.{ReportGives, DropGives}
use Rattle.calls.specs.TrackCalls.{TracksGives, ReadTrackGives}
use Rattle.calls.specs.SheetCalls.{WriteGives, ReadGives, is_given, next_cell, NextGives}
use Rattle.promises.specs.Happens.{Call, Fresh, Report, Drop, Window, Moving, Open, Leaf, Write, Chart, Read, Reply, Number, Listed, Given, Bytes, told, Happens, Run, reasons_of, ChangesNothing, IsQuery, GoesBack, OnlyReads}
use Rattle.promises.specs.Model.{Model, Together, capacity_after, Sized}
use Rattle.promises.specs.Laws.Refused.{call_number, only_reads, call_refused, backward}
use Rattle.promises.specs.Laws.Replies.{total_told, query_lists, query_counts, written_back, read_back, asked_in_numbers, wrote_in_numbers, charted_is, track_given, track_refused, track_accepted, opened_is}
use Rattle.promises.specs.Laws.Together.{call_size}
use Rattle.promises.specs.Laws.Same.{model_alike, call_alike, exchanged_alike}

-- ==== 1. No input does harm. Whatever words are lent as a table, and whatever else is given, a call is refused exactly when the scope says and by the number
-- that it says, and a refusal changes nothing.
module _ (w : List ℤ) (c : Call) (a : Reply) (v : List ℤ) (happens : Happens w c a v) where
  -- A call's number is that of the first of its reasons that holds, and 0 where none does: this number and no other.
  pub number_exactly_when : (n : ℕ) → (told a ≡ n) ↔ First (reasons_of w c) n
  number_exactly_when n = (λ is. subst (First (reasons_of w c)) is (call_number w c a v happens), first_fixed (reasons_of w c) (told a) n (call_number w c a v happens))

  -- A refusal leaves table, list and bytes as they were and gives zeros beside its number; 10 alone gives the hits.
  pub refusal_changes_nothing : (told a ≡ 0 → ⊥) → ChangesNothing w c a v
  refusal_changes_nothing refused = call_refused c a happens refused

  -- A query, the opening of a leafing, a step of it and the writing of a sheet or of tracks leave the table as it was in any case.
  pub reading_changes_no_table : OnlyReads c → v ≡ w
  reading_changes_no_table only = only_reads a only happens

  -- A window that ends before it starts is refused on any table, by 7 unless 1, 4 or 5 comes first; so is a moving query that does not end after its start.
  pub backward_query_is_refused : {q : Query} {list : List ℤ} (query : IsQuery c q list) → GoesBack query → (told a ≡ 1) ⊎ ((told a ≡ 4) ⊎ ((told a ≡ 5) ⊎ (told a ≡ 7)))
  backward_query_is_refused query = backward w a v query happens

-- The hits that come with 10 are all there are.
pub too_many_hits_are_counted : {w : List ℤ} {c : Call} {q : Query} {list : List ℤ} {a : Reply} (v : List ℤ) → IsQuery c q list → Happens w c a v → told a ≡ 10
    → (ids : List ℤ) × Hits w q ids × (a ≡ Listed 10 (length ids) list)
too_many_hits_are_counted v query happens ten = query_counts v query happens ten

-- A step of the leafing over words that are no sound table gives none.
pub step_over_unsound_gives_none : {w : List ℤ} {last : ℤ} {a : Reply} {v : List ℤ} → (Sound w → ⊥) → Happens w (Leaf last) a v → a ≡ Given None
step_over_unsound_gives_none unsound happens = happens.reply ∙ ap Given (happens.steps.unsound unsound)

-- ==== 2. Queries and sheets are exact. A query lists each held cell that meets it once, by rising identifier, and no other; a sheet carries the clock and the live
-- cells, there and back.
-- The identifiers that an accepted query lists, still or moving, are those of `Hits`. They stand in the list's first places, and the places behind are as they were.
pub accepted_query_lists_the_hits : {w : List ℤ} {c : Call} {q : Query} {list : List ℤ} {a : Reply} (v : List ℤ) → IsQuery c q list → Happens w c a v → told a ≡ 0
    → (ids : List ℤ) × Hits w q ids × (a ≡ Listed 0 (length ids) (ids ++ drop (length ids) list))
accepted_query_lists_the_hits v query happens accepted = query_lists v query happens accepted

-- In a sound table an identifier is that of one held cell.
pub identifier_is_of_one_cell : {w : List ℤ} → Sound w → {c d : Cell} → c ∈ held w → d ∈ held w → c.id ≡ d.id → c ≡ d
identifier_is_of_one_cell sound = same_by identifier sound.identifiers_once

-- What was written of a sound table is read into any words with room for it, and gives the same clock and live cells.
pub sheet_read_back_gives_the_table : {w u t v : List ℤ} {buffer bytes : List ℕ} {total : ℕ} {cells : ℤ} {a : Reply}
    → Sound w → Happens w (Write buffer) (Bytes 0 total bytes) u
    → IsCapacity cells → words_for (nat_of cells) ≤ length t → total ≤ total_for (nat_of cells)
    → Happens t (Read cells (take total bytes)) a v → (a ≡ Number 0) × (clock v ≡ clock w) × ((c : Cell) → Live v c ↔ Live w c)
sheet_read_back_gives_the_table sound wrote capacity long room reads = written_back sound wrote capacity long room reads

-- An accepted sheet is written as the bytes that were read, into any buffer that is as long or longer.
pub sheet_written_again_is_the_same : {w v u : List ℤ} {cells : ℤ} {bytes buffer : List ℕ} {a : Reply}
    → AreBytes bytes → Happens w (Read cells bytes) (Number 0) v
    → length bytes ≤ length buffer → Happens v (Write buffer) a u → a ≡ Bytes 0 (length bytes) (bytes ++ drop (length bytes) buffer)
sheet_written_again_is_the_same small reads room wrote = read_back small reads room wrote

-- ==== 3. A table is what its accepted calls have made of it, and the shape of its tree does not show.
-- The two theorems that say so of any run of calls rest on what each call makes of the model, and stand in proofs/Demands: `after_any_calls`, and
-- `same_cells_reply_alike`, that two tables with the same clock and live cells reply alike.

-- The length stands through every call, and so does the capacity, but for an accepted new start, which sets it.
pub size_stands : {w : List ℤ} (c : Call) (a : Reply) {v : List ℤ} → Happens w c a v → Sized w v (capacity_after (capacity_word w) c (told a))
size_stands c a happens = call_size c a happens

-- So a reply is fixed by the model, the capacity, the length and what is given to the call.
pub reply_is_fixed : {m : Model} {w w' : List ℤ} → Together m w → Together m w' → capacity_word w ≡ capacity_word w' → length w ≡ length w'
    → (c : Call) (a a' : Reply) (v v' : List ℤ) → Happens w c a v → Happens w' c a' v' → a ≡ a'
reply_is_fixed together together' cells long c a a' v v' happens happens' = (call_alike (model_alike cells together together') long c a a' happens happens').0

-- Two reports on different cells in one minute, the second straight after the first, can change places wherever both are accepted in both orders: every further
-- run of calls gets the same replies.
pub reports_can_change_places : {r s : track.Report} {w t t' : List ℤ} {further : List Call} {replies replies' : List Reply} → (r.id ≡ s.id → ⊥) → r.minute ≡ s.minute
    → Run w (Report r ∷ Report s ∷ further) (Number 0 ∷ Number 0 ∷ replies) t
    → Run w (Report s ∷ Report r ∷ further) (Number 0 ∷ Number 0 ∷ replies') t' → (replies ≡ replies') × Alike t t'
reports_can_change_places differ minute run run' = exchanged_alike differ minute run run'

-- ==== Tracks for the map desk. The live cells are written as lines of text, and a line of two points gives its cell back. Reading a line is no call on a table:
-- `ReadTrackGives` is what the exported call ensures of the number r and the six numbers that it gives.
-- An accepted writing leaves the lines of the live cells, by rising identifier, in the first bytes, and the bytes behind as they were.
pub tracks_are_of_the_live_cells : {w u : List ℤ} {buffer bytes : List ℕ} {total : ℕ} → Happens w (Chart buffer) (Bytes 0 total bytes) u
    → (cells : List Cell) × (text : List ℕ) × LiveCells w cells × TextOf (clock w) cells text × (total ≡ length text) × (bytes ≡ text ++ drop total buffer)
tracks_are_of_the_live_cells wrote = let c = charted_is wrote in (c.cells, c.text, c.live, c.is_text, c.total_is, c.written)

-- The line of a live cell of a sound table, read with its identifier, gives the cell.
pub track_read_back_gives_the_cell : {w : List ℤ} {c : Cell} {line : List ℕ} {r : ℤ} {numbers : List ℤ} → Sound w → Live w c
    → LineOf (clock w) c line → ReadTrackGives c.id line r numbers → (r ≡ pos 0) × (numbers ≡ cell_numbers c)
track_read_back_gives_the_cell sound live line reads = track_given reads (track_back (live_in_range sound live) sound.clock_in live.in_life line)

-- An accepted line is that of the cell that it gives, at a minute at which it lives, byte for byte; and the cell has the identifier that was given.
pub accepted_track_is_the_cells_line : {id r : ℤ} {line : List ℕ} {numbers : List ℤ} → ReadTrackGives id line r numbers → r ≡ pos 0
    → (c : Cell) × (minute : ℤ) × (numbers ≡ cell_numbers c) × (c.id ≡ id) × CellInRange c × IsMinute minute × LivesAt minute c × LineOf minute c line
accepted_track_is_the_cells_line reads accepted =
    let a = track_accepted reads accepted in
    let read = a.1 in
    let g = read.gives in
    (a.0, read.first.minute, a.2, g.identifier_is, gives_in_range g, g.first_minute_in, subst (λ (t : ℤ). read.first.minute <ℤ t) (sym g.expiry_is) g.in_order, line_back read)

-- Reading's number is 14 exactly when line and identifier give no cell, and 0 exactly when they give one: this number and no other.
pub track_number_exactly_when : {id r : ℤ} {line : List ℕ} {numbers : List ℤ} → ReadTrackGives id line r numbers → (n : ℕ) → (r ≡ pos n) ↔ First (track_reasons id line) n
track_number_exactly_when {id} {line} g n =
    let told_is = g.reads.refusal in
    (λ is. subst (First (track_reasons id line)) (ap nat_abs (sym g.number_is ∙ is)) told_is, λ first. g.number_is ∙ ap pos (first_fixed (track_reasons id line) (number_of g.read) n told_is first))

-- A line that gives a cell gives its numbers; one that gives none gives zeros.
pub track_numbers_are_the_cells : {id r : ℤ} {line : List ℕ} {numbers : List ℤ} {c : Cell} → ReadTrackGives id line r numbers → ReadsAs id line c → (r ≡ pos 0) × (numbers ≡ cell_numbers c)
track_numbers_are_the_cells reads read = track_given reads read

pub refused_track_gives_zeros : {id r : ℤ} {line : List ℕ} {numbers : List ℤ} → ReadTrackGives id line r numbers → ((c : Cell) → ReadsAs id line c → ⊥) → (r ≡ pos 14) × (numbers ≡ cell_numbers no_cell)
refused_track_gives_zeros reads none = track_refused reads none

-- A line of one point is refused, whatever its numbers and the identifier.
pub point_line_is_refused : {id r : ℤ} {p : Point} {line : List ℕ} {numbers : List ℤ} → PointForm p line → ReadTrackGives id line r numbers → r ≡ pos 14
point_line_is_refused form reads = (track_refused reads (λ c read. point_not_read form read)).0

-- No line is longer than 66 bytes, and no text than 66 for each cell that the table is for.
pub track_is_at_most_66_bytes : {w : List ℤ} {c : Cell} {line : List ℕ} → Sound w → Live w c → LineOf (clock w) c line → length line ≤ 66
track_is_at_most_66_bytes sound live line = line_length (live_in_range sound live) sound.clock_in line

pub tracks_are_at_most_66_bytes_each : {w u : List ℤ} {buffer bytes : List ℕ} {n total : ℕ} → Happens w (Chart buffer) (Bytes n total bytes) u → total ≤ 66 * nat_of (capacity_word w)
tracks_are_at_most_66_bytes_each {w} h = subst (λ (t : ℕ). t ≤ 66 * nat_of (capacity_word w)) (sym (ap total_told h.reply)) (charted_within h.written h.writes)

-- ==== The minute of the expiry. A cell does not live through it, so that its successor, which starts in that very minute, is never shown beside it.
-- A held cell that is listed lives at the query's start: one that expires then is not listed.
pub listed_cell_lives_at_the_start : {w : List ℤ} {q : Query} {ids : List ℤ} → Sound w → Hits w q ids → (c : Cell) → c ∈ held w → c.id ∈ ids → LivesAt q.start.at c
listed_cell_lives_at_the_start {q} sound hits c is_held listed =
    let h = hits.only c.id listed in
    subst (LivesAt q.start.at) (identifier_is_of_one_cell sound h.is_held is_held h.has_id) (lives_at_start h.cell q h.meets)

-- After an accepted report or drop each cell that is held lives at its minute: one that expires then is gone.
pub report_leaves_what_lives : {w v : List ℤ} {r : track.Report} → Happens w (Report r) (Number 0) v → (c : Cell) → c ∈ held v → LivesAt r.minute c
report_leaves_what_lives happens c is_held = step_leaves_what_lives (happens.steps.accepted (sym (ap told happens.reply))) c is_held

pub drop_leaves_what_lives : {w v : List ℤ} {id minute : ℤ} → Happens w (Drop id minute) (Number 0) v → (c : Cell) → c ∈ held v → LivesAt minute c
drop_leaves_what_lives happens c is_held = step_leaves_what_lives (happens.steps.accepted (sym (ap told happens.reply))) c is_held

-- No track is a point: every line that is written is a LINESTRING, from where its cell is at the clock to where its track is at its expiry, and nowhere in the
-- text is there a POINT line.
pub every_track_is_a_linestring : {w u : List ℤ} {buffer bytes : List ℕ} {total : ℕ} → Happens w (Chart buffer) (Bytes 0 total bytes) u
    → (cells : List Cell) × (text : List ℕ) × LiveCells w cells × LineStringsOf (clock w) cells text × (total ≡ length text) × (bytes ≡ text ++ drop total buffer)
every_track_is_a_linestring wrote = let c = charted_is wrote in (c.cells, c.text, c.live, never_a_point c, c.total_is, c.written)

pub no_point_is_written : {w u : List ℤ} {buffer bytes : List ℕ} {total : ℕ} → Happens w (Chart buffer) (Bytes 0 total bytes) u
    → (before after : List ℕ) {line : List ℕ} {p : Point} → take total bytes ≡ before ++ (line ++ after) → PointForm p line → ⊥
no_point_is_written wrote = point_nowhere (charted_is wrote)

-- ==== The exported calls do what `Happens` says, so all of this holds of them. From what each ensures of its result r, of what it writes and of the table there
-- is a reply in these numbers; a table that is lent for reading only is left as it was.
pub fresh_happens : {cells r : ℤ} {w v : List ℤ} → FreshGives cells w r v → (n : ℕ) × (r ≡ pos n) × Happens w (Fresh cells) (Number n) v
fresh_happens g = (g.number, g.is, record { number = g.number; reply = refl; makes = g.makes })

pub report_happens : {r : track.Report} {z : ℤ} {w v : List ℤ} → ReportGives w r z v → (n : ℕ) × (z ≡ pos n) × Happens w (Report r) (Number n) v
report_happens g = (g.number, g.is, record { number = g.number; reply = refl; steps = g.steps })

pub drop_happens : {id minute r : ℤ} {w v : List ℤ} → DropGives w id minute r v → (n : ℕ) × (r ≡ pos n) × Happens w (Drop id minute) (Number n) v
drop_happens g = (g.number, g.is, record { number = g.number; reply = refl; steps = g.steps })

pub window_happens : (q : Query) {r hits opened : ℤ} {w list list' : List ℤ} → WindowGives w q list r hits opened list'
    → (n : ℕ) × (h : ℕ) × (r ≡ pos n) × (hits ≡ pos h) × Happens w (Window q list) (Listed n h list') w
window_happens q g = asked_in_numbers g

pub moving_happens : (q : Query) {r hits opened : ℤ} {w list list' : List ℤ} → MovingGives w q list r hits opened list'
    → (n : ℕ) × (h : ℕ) × (r ≡ pos n) × (hits ≡ pos h) × Happens w (Moving q list) (Listed n h list') w
moving_happens q g = asked_in_numbers g

-- The count of opened nodes beside these is the table's own, and 0 for a refusal.
pub opened_count_is_the_tables : {w : List ℤ} {Backward : Type 0} {q : Query} {list : List ℤ} {r hits opened : ℤ} {list' : List ℤ}
    → QueryGives w Backward q list r hits opened list' → (r ≡ pos 0 → opened ≡ pos (length (opened_nodes w q))) × ((r ≡ pos 0 → ⊥) → opened ≡ pos 0)
opened_count_is_the_tables g = opened_is g

pub open_happens : {r : ℤ} {w : List ℤ} → Gives (opening_reasons w) r → (n : ℕ) × (r ≡ pos n) × Happens w Open (Number n) w
open_happens g = (g.number, g.is, record { number = g.number; reply = refl; refusal = g.first; unchanged = refl })

-- a step's result is 1 with the record of a cell, or 0 with zeros
pub next_happens : {last r : ℤ} {w numbers : List ℤ} → NextGives w last r numbers
    → (next : Option Cell) × (r ≡ is_given next) × (numbers ≡ cell_numbers (next_cell next)) × Happens w (Leaf last) (Given next) w
next_happens g = (g.next, g.number_is, g.record_is, record { next = g.next; reply = refl; steps = g.steps; unchanged = refl })

pub write_happens : {w : List ℤ} {bytes bytes' : List ℕ} {r total : ℤ} → WriteGives w bytes r total bytes'
    → (n : ℕ) × (t : ℕ) × (r ≡ pos n) × (total ≡ pos t) × Happens w (Write bytes) (Bytes n t bytes') w
write_happens {bytes'} g = wrote_in_numbers g.written bytes' g.writes g.in_numbers

pub tracks_happens : {w : List ℤ} {bytes bytes' : List ℕ} {r total : ℤ} → TracksGives w bytes r total bytes'
    → (n : ℕ) × (t : ℕ) × (r ≡ pos n) × (total ≡ pos t) × Happens w (Chart bytes) (Bytes n t bytes') w
tracks_happens {bytes'} g = wrote_in_numbers g.written bytes' g.charts g.in_numbers

pub read_happens : {cells r : ℤ} {w v : List ℤ} {bytes : List ℕ} → ReadGives cells w bytes r v → (n : ℕ) × (r ≡ pos n) × Happens w (Read cells bytes) (Number n) v
read_happens g = (number_of g.outcome, g.number_is, record { outcome = g.outcome; reply = refl; reads = g.reads })
