-- What the desk has done with the bytes that came in.
use Rattle.std.specs.Prelude.{◌≡◌, List, ◌++◌, ℕ, ◌+◌, ◌≤◌, ◌<◌, ℤ, length, take, drop}
use Rattle.desk_lines.specs.Lines.{NoFeed, CutInto, last_line}
use Rattle.desk_lines.specs.LineHeld.{LineHeld}
use Rattle.desk_serve.specs.Answered.{longest_line, desk_cells, longest_answer, Session}

-- what the desk lends: its list, a buffer with one place more than the longest line, of which `held` are taken, and room for an answer
pub record CanServe (list : List ℤ) (buffer : List ℕ) (held : ℕ) (out : List ℕ) : Type 0 where
  pub places : length list ≡ desk_cells
  pub line_room : length buffer ≡ longest_line + 1
  pub held_in : held ≤ length buffer
  pub answer_room : longest_answer ≤ length out

-- after the bytes `begun` of a line these bytes came in: the lines that they end are answered, by which the table w became v, and
-- what follows the last line feed is held
pub record Heard (w : List ℤ) (begun bytes : List ℕ) (v : List ℤ) (answers buffer : List ℕ) (held : ℕ) : Type 0 where
  pub lines : List (List ℕ)
  pub rest : List ℕ
  pub cut : CutInto (begun ++ bytes) lines rest
  pub session : Session w lines v answers
  pub holds : LineHeld buffer held rest

-- one call: whatever line was begun, the first `taken` bytes of the piece are heard, and the answers are the first bytes of `out`, which
-- is `out'` then. At least one byte is taken, and all of them unless there might be no room for a further answer. The list and the buffer
-- past what is held are of no more use
pub record Serves (w : List ℤ) (buffer : List ℕ) (held : ℕ) (piece out : List ℕ) (v : List ℤ) (buffer' : List ℕ) (held' : ℕ) (out' : List ℕ) (taken written : ℕ) : Type 0 where
  pub hears : (begun : List ℕ) → NoFeed begun → LineHeld buffer held begun → Heard w begun (take taken piece) v (take written out') buffer' held'
  pub taken_in : taken ≤ length piece
  pub forward : 0 < length piece → 0 < taken
  pub all : written + longest_answer ≤ length out' → taken ≡ length piece
  pub held_in : held' ≤ length buffer'
  pub written_in : written ≤ length out'
  pub rest_kept : drop written out' ≡ drop written out

-- the end of the input: whatever is held is a line, if there is any
pub record Ends (w : List ℤ) (buffer : List ℕ) (held : ℕ) (out : List ℕ) (v : List ℤ) (out' : List ℕ) (written : ℕ) : Type 0 where
  pub answers : (rest : List ℕ) → LineHeld buffer held rest → Session w (last_line rest) v (take written out')
  pub written_in : written ≤ length out'
  pub rest_kept : drop written out' ≡ drop written out
