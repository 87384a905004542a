-- What the desk has done with what it read.
use Rattle.std.specs.Prelude.{◌≡◌, ◌⊎◌, Bool, true, false, Option, Some, None, List, ℕ, ◌≤◌, ◌<◌, ℤ, length, take}
use Rattle.desk_lines.specs.Lines.{NoFeed, last_line}
use Rattle.desk_lines.specs.LineHeld.{LineHeld}
use Rattle.desk_serve.specs.Answered.{Session}
use Rattle.desk_serve.specs.Served.{Heard}

-- whatever line was begun, all of these bytes are heard, with some answers
abbrev pub HearsAll : List ℤ → List ℕ → ℕ → List ℕ → List ℤ → List ℕ → ℕ → Type 0
HearsAll w buffer held bytes v buffer' held' =
    (begun : List ℕ) → NoFeed begun → LineHeld buffer held begun → (answers : List ℕ) × Heard w begun bytes v answers buffer' held'

-- the first `far` bytes of a piece are heard. `told` says whether every answer was taken by standard output; if so, that is the whole piece
pub record Talked (w : List ℤ) (buffer : List ℕ) (held : ℕ) (piece : List ℕ) (v : List ℤ) (buffer' : List ℕ) (held' : ℕ) (told : Bool) : Type 0 where
  pub far : ℕ
  pub far_in : far ≤ length piece
  pub hears : HearsAll w buffer held (take far piece) v buffer' held'
  pub whole : told ≡ true → far ≡ length piece
  pub held_in : held' ≤ length buffer'

-- the end of the input: whatever is held is a line, if there is any, and it is answered
abbrev pub Finished : List ℤ → List ℕ → ℕ → List ℤ → Type 0
Finished w buffer held v = (answers : List ℕ) × ((rest : List ℕ) → LineHeld buffer held rest → Session w (last_line rest) v answers)

-- one turn. `got` is what the read answered: nothing if it failed, 0 at the end of the input, else how many bytes of the piece came in.
-- `on` says whether the desk goes on reading
pub record Turned (got : Option ℕ) (w : List ℤ) (buffer : List ℕ) (held : ℕ) (piece : List ℕ) (v : List ℤ) (buffer' : List ℕ) (held' : ℕ) (on : Bool) : Type 0 where
  pub failed : got ≡ None → (v ≡ w) × (buffer' ≡ buffer) × (held' ≡ held) × (on ≡ false)
  pub ended : got ≡ Some 0 → Finished w buffer held v × (buffer' ≡ buffer) × (held' ≡ held) × (on ≡ false)
  pub came : (n : ℕ) → got ≡ Some n → 0 < n → n ≤ length piece → Talked w buffer held (take n piece) v buffer' held' on
  pub held_in : held' ≤ length buffer'

-- a whole run, from the table w to v: some bytes came in and were heard one after the other, by which the table became u; and then what was
-- held was answered as a last line, or not
pub record Ran (w : List ℤ) (buffer : List ℕ) (held : ℕ) (v : List ℤ) (buffer' : List ℕ) (held' : ℕ) : Type 0 where
  pub bytes : List ℕ
  pub u : List ℤ
  pub hears : HearsAll w buffer held bytes u buffer' held'
  pub last : (v ≡ u) ⊎ Finished u buffer' held' v
