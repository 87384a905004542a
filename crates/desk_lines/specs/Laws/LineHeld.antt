-- How much of a line a buffer holds: nothing, all of it, its first bytes; and one byte more.
use Rattle.std.specs.Prelude.{◌≡◌, List, [], ◌∷◌, ◌++◌, ℕ, ◌+◌, ◌≤◌, ◌<◌, length, take, set}
use Rattle.std.proofs.Common.{sym, ap, ◌∙◌, add-one, arith, length-set, length-append, length-take, take_all, length-take-le, take-suc-set}
use Rattle.std.proofs.Math.Decide.{dec_lt}
use Rattle.std.proofs.Math.Seq.{take-nil}
use Rattle.std.proofs.lemmas.List.{take-append-le}
use Rattle.desk_lines.specs.LineHeld.{LineHeld, Keeps, KeepsByte}

pub held_none : (buffer : List ℕ) → LineHeld buffer 0 []
held_none buffer = record { inside = omega arith; is = sym (take-nil (length buffer)) }

-- any first bytes of a buffer may be a line
pub held_some : (buffer : List ℕ) (n : ℕ) → n ≤ length buffer → LineHeld buffer n (take n buffer)
held_some buffer n h =
    let long = length-take-le n buffer h in
    record { inside = h; is = sym (take_all (length buffer) (take n buffer) (omega (arith, long))) }

module _ {buffer : List ℕ} {n : ℕ} {line : List ℕ} (h : LineHeld buffer n line) where
  -- a buffer that is not full has the whole line
  pub held_whole : n < length buffer → take n buffer ≡ line
  held_whole lt = h.is ∙ take_all (length buffer) line short
    where
      counted : n ≡ length (take (length buffer) line)
      counted = sym (length-take-le n buffer h.inside) ∙ ap length h.is

      short : length line ≤ length buffer
      short = omega (arith, counted, length-take (length buffer) line)

  -- a full buffer says that the line has at least so many bytes
  pub held_over : length buffer ≤ n → length buffer ≤ length line
  held_over ge =
      let counted : length (take n buffer) ≡ length (take (length buffer) line) = ap length h.is in
      omega (arith, counted, length-take-le n buffer h.inside, length-take (length buffer) line, h.inside)

keeps_one : (buffer : List ℕ) (n b : ℕ) → n < length buffer → KeepsByte buffer n b (set buffer n b) (n + 1)
keeps_one buffer n b lt = λ line h.
    let long = length-set buffer n b in
    let whole = held_whole h lt in
    let many : length line ≡ n = ap length (sym whole) ∙ length-take-le n buffer h.inside in
    record {
      inside = omega (arith, long);
      is = rw (add-one, take-suc-set buffer n b lt, whole, long)
          (sym (take_all (length buffer) (line ++ b ∷ []) (omega (arith, many, length-append line (b ∷ [])))));
    }

keeps_none : (buffer : List ℕ) (n b : ℕ) → length buffer ≤ n → KeepsByte buffer n b buffer n
keeps_none buffer n b ge = λ line h.
    record { inside = h.inside; is = h.is ∙ sym (take-append-le (length buffer) line (b ∷ []) (held_over h ge)) }

pub keeps_byte : {buffer : List ℕ} {n b : ℕ} {buffer' : List ℕ} {n' : ℕ} → Keeps buffer n b buffer' n' → KeepsByte buffer n b buffer' n'
keeps_byte {buffer} {n} {b} {buffer'} {n'} k = by (dec_lt n (length buffer))
  where
    by : Dec (n < length buffer) → KeepsByte buffer n b buffer' n'
    by (yes lt) = let e = k.room lt in rw (e.0, e.1) (keeps_one buffer n b lt)
    by (no ge) = let e = k.full (omega arith) in rw (e.0, e.1) (keeps_none buffer n b (omega arith))
