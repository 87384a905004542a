-- The calls over one table and their replies; what each call's contract says of its reply and of the table that it leaves; runs of calls; when a call is refused.
use Rattle.std.specs.Prelude.{◌≡◌, List, [], ◌∷◌, ℕ, ℤ, Result, Option, None}
use Rattle.track.specs.Query.{still, EndsBeforeStart, EndsByStart}
use Rattle.track.specs.Refusals.{Reason, First, number_of}
use Rattle.track.specs.declared.report.Report as track
use Rattle.track.specs.declared.queries.Query.{Query}
use Rattle.table.specs.Fresh.{fresh_reasons, MakesFresh}
use Rattle.query.specs.Queried.{answer_number, answer_hits, reasons, Queried}
use Rattle.tree.specs.Steps.{report_refusals, ReportSteps, drop_refusals, DropSteps}
use Rattle.leafing.specs.NextLive.{Steps, opening_reasons}
use Rattle.sheet_write.specs.Written.{written_total, write_reasons, WritesSheet}
use Rattle.charting.specs.Charted.{chart_reasons, ChartsTracks}
use Rattle.sheet_read.specs.Reads.{read_reasons, ReadsSheet}
use Rattle.track.specs.declared.cell.Cell.{Cell}
use Rattle.track.specs.declared.refusal.Refusal.{Refusal}
use Rattle.query.specs.declared.answer.Found.{Found}
use Rattle.query.specs.declared.answer.NotListed.{NotListed}

-- a call with all that is given to it but the table: numbers, the lent list, the lent bytes
pub data Call : Type 0 where
  Fresh : (cells : ℤ) → Call
  Report : (r : track.Report) → Call
  Drop : (id minute : ℤ) → Call
  Window : (q : Query) (list : List ℤ) → Call
  Moving : (q : Query) (list : List ℤ) → Call
  Open : Call
  Leaf : (last : ℤ) → Call
  Write : (bytes : List ℕ) → Call
  Chart : (bytes : List ℕ) → Call
  Read : (cells : ℤ) (bytes : List ℕ) → Call

-- a reply with all that is given back but the table and the count of opened nodes, which alone may depend on the tree
pub data Reply : Type 0 where
  Number : (n : ℕ) → Reply
  Listed : (n hits : ℕ) (list : List ℤ) → Reply
  Given : (r : Option Cell) → Reply
  Bytes : (n total : ℕ) (bytes : List ℕ) → Reply

-- the number that a reply tells, and its hits
abbrev pub told : Reply → ℕ
told (Number n) = n
told (Listed n hits list) = n
told (Given r) = 0
told (Bytes n total bytes) = n

abbrev pub hits_told : Reply → ℕ
hits_told (Number n) = 0
hits_told (Listed n hits list) = hits
hits_told (Given r) = 0
hits_told (Bytes n total bytes) = 0

-- ---- what happens: of the table w the call makes the table v, and its reply is a
-- making a fresh table, a report, a drop and a sheet reading leave another table; the others leave it as it is
pub record WasMade (w : List ℤ) (cells : ℤ) (a : Reply) (v : List ℤ) : Type 0 where
  pub number : ℕ
  pub reply : a ≡ Number number
  pub makes : MakesFresh cells w number v

pub record WasReported (w : List ℤ) (r : track.Report) (a : Reply) (v : List ℤ) : Type 0 where
  pub number : ℕ
  pub reply : a ≡ Number number
  pub steps : ReportSteps w r number v

pub record WasDropped (w : List ℤ) (id minute : ℤ) (a : Reply) (v : List ℤ) : Type 0 where
  pub number : ℕ
  pub reply : a ≡ Number number
  pub steps : DropSteps w id minute number v

-- `Backward` is as in `query_reasons`
pub record WasAsked (w : List ℤ) (Backward : Type 0) (q : Query) (list : List ℤ) (a : Reply) (v : List ℤ) : Type 0 where
  pub answer : Result Found NotListed
  pub list' : List ℤ
  pub reply : a ≡ Listed (answer_number answer) (answer_hits answer) list'
  pub queried : Queried w Backward q list answer list'
  pub unchanged : v ≡ w

pub record WasOpened (w : List ℤ) (a : Reply) (v : List ℤ) : Type 0 where
  pub number : ℕ
  pub reply : a ≡ Number number
  pub refusal : First (opening_reasons w) number
  pub unchanged : v ≡ w

pub record WasStepped (w : List ℤ) (last : ℤ) (a : Reply) (v : List ℤ) : Type 0 where
  pub next : Option Cell
  pub reply : a ≡ Given next
  pub steps : Steps w last next
  pub unchanged : v ≡ w

-- a sheet, or lines of tracks: `Writes` says with which answer, and what the lent bytes hold afterwards
pub record WasWritten (w : List ℤ) (Writes : Result ℕ Refusal → List ℕ → Type 0) (a : Reply) (v : List ℤ) : Type 0 where
  pub written : Result ℕ Refusal
  pub bytes' : List ℕ
  pub reply : a ≡ Bytes (number_of written) (written_total written) bytes'
  pub writes : Writes written bytes'
  pub unchanged : v ≡ w

pub record WasRead (w : List ℤ) (cells : ℤ) (bytes : List ℕ) (a : Reply) (v : List ℤ) : Type 0 where
  pub outcome : Result (Unit {0}) Refusal
  pub reply : a ≡ Number (number_of outcome)
  pub reads : ReadsSheet cells w bytes outcome v

abbrev pub Happens : List ℤ → Call → Reply → List ℤ → Type 0
Happens w (Fresh cells) a v = WasMade w cells a v
Happens w (Report r) a v = WasReported w r a v
Happens w (Drop id minute) a v = WasDropped w id minute a v
Happens w (Window q list) a v = WasAsked w (EndsBeforeStart q) (still q) list a v
Happens w (Moving q list) a v = WasAsked w (EndsByStart q) q list a v
Happens w Open a v = WasOpened w a v
Happens w (Leaf last) a v = WasStepped w last a v
Happens w (Write bytes) a v = WasWritten w (WritesSheet w bytes) a v
Happens w (Chart bytes) a v = WasWritten w (ChartsTracks w bytes) a v
Happens w (Read cells bytes) a v = WasRead w cells bytes a v

-- ---- one call after the other
pub data Run : List ℤ → List Call → List Reply → List ℤ → Type 0 where
  no_call : {w : List ℤ} → Run w [] [] w
  one_call : {w v u : List ℤ} {c : Call} {a : Reply} {calls : List Call} {replies : List Reply} → Happens w c a v → Run v calls replies u → Run w (c ∷ calls) (a ∷ replies) u

-- ---- when a call is refused, and what is left of it
-- why a call of the table w is refused, in the order in which it is tried. A step of the leafing has no number: where there is nothing to give it gives none
abbrev pub reasons_of : List ℤ → Call → List Reason
reasons_of w (Fresh cells) = fresh_reasons cells w
reasons_of w (Report r) = report_refusals w r
reasons_of w (Drop id minute) = drop_refusals w id minute
reasons_of w (Window q list) = reasons w (EndsBeforeStart q) (still q) list
reasons_of w (Moving q list) = reasons w (EndsByStart q) q list
reasons_of w Open = opening_reasons w
reasons_of w (Leaf last) = []
reasons_of w (Write bytes) = write_reasons w bytes
reasons_of w (Chart bytes) = chart_reasons w bytes
reasons_of w (Read cells bytes) = read_reasons cells w bytes

-- the reply of a call that is refused by n and gives so many hits
abbrev pub refused_by : Call → ℕ → ℕ → Reply
refused_by (Fresh cells) n hits = Number n
refused_by (Report r) n hits = Number n
refused_by (Drop id minute) n hits = Number n
refused_by (Window q list) n hits = Listed n hits list
refused_by (Moving q list) n hits = Listed n hits list
refused_by Open n hits = Number n
refused_by (Leaf last) n hits = Given None
refused_by (Write bytes) n hits = Bytes n 0 bytes
refused_by (Chart bytes) n hits = Bytes n 0 bytes
refused_by (Read cells bytes) n hits = Number n

-- what is left of a refused call
pub record ChangesNothing (w : List ℤ) (c : Call) (a : Reply) (v : List ℤ) : Type 0 where
  pub same_table : v ≡ w
  -- list and bytes come back as they were lent, and a total is 0
  pub same_lent : a ≡ refused_by c (told a) (hits_told a)
  -- and so are the hits, but for 10
  pub no_hits : (told a ≡ 10 → ⊥) → hits_told a ≡ 0

-- ---- kinds of calls
-- a query, still or moving, and the list that is lent to it
pub data IsQuery : Call → Query → List ℤ → Type 0 where
  window : {q : Query} {list : List ℤ} → IsQuery (Window q list) (still q) list
  moving : {q : Query} {list : List ℤ} → IsQuery (Moving q list) q list

-- what speaks against it as backward
abbrev pub GoesBack : {c : Call} {q : Query} {list : List ℤ} → IsQuery c q list → Type 0
GoesBack (window {q}) = EndsBeforeStart q
GoesBack (moving {q}) = EndsByStart q

-- a call that only reads its table
pub data OnlyReads : Call → Type 0 where
  query : {c : Call} {q : Query} {list : List ℤ} → IsQuery c q list → OnlyReads c
  opening : OnlyReads Open
  step : {last : ℤ} → OnlyReads (Leaf last)
  writing : {bytes : List ℕ} → OnlyReads (Write bytes)
  charting : {bytes : List ℕ} → OnlyReads (Chart bytes)
