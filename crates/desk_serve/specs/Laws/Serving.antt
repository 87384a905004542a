-- A byte taken in, byte after byte of a piece, piece after piece, and the end of the input.
use Rattle.std.specs.Prelude.{◌≡◌, refl, List, [], ◌∷◌, ◌++◌, ℕ, zero, suc, ◌+◌, ◌-◌, ◌≤◌, ◌<◌, ℤ, length, get_or, take, drop}
use Rattle.std.proofs.Common.{sym, ap, ◌∙◌, append_assoc, append-nil, add-one, arith, length-append, length-drop, drop_of_length-le, take-suc, take_at, drop_at, drop-drop, take_all, length-take-le}
use borrow.Rule.Slice.PartMut.{put_mid}
use Rattle.std.proofs.Math.Seq.{take-nil}
use Rattle.desk_lines.specs.Lines.{line_feed, NoFeed, last_line}
use Rattle.desk_lines.specs.Laws.Lines.{cut_rest, cut_byte, cut_feed, cut_then}
use Rattle.desk_lines.specs.LineHeld.{LineHeld, KeepsByte}
use Rattle.desk_lines.specs.Laws.LineHeld.{held_none, held_some, held_whole}
use Rattle.desk_answers.specs.AnswerLines.{LineWritten}
use Rattle.desk_serve.specs.Answered.{longest_line, longest_answer, Answered, Session, no_line, and_line}
use Rattle.desk_serve.specs.Served.{Heard, Serves, Ends}
use Rattle.desk_serve.specs.Inner.Serving.{AnswersHeld, TakesByte}

pub heard_byte : {b : ℕ} {t : List ℤ} {buffer buffer' : List ℕ} {held held' : ℕ} {out : List ℕ} {written : ℕ} → (b ≡ line_feed → ⊥) → held ≤ length buffer → written ≤ length out
    → KeepsByte buffer held b buffer' held' → TakesByte b t buffer held out written t buffer' held' out written
heard_byte {b} {buffer} {held} other few inside keeps = record {
  hears = λ w begun bytes h. record {
    lines = h.lines;
    rest = h.rest ++ b ∷ [];
    cut = rw append_assoc at (cut_byte other h.cut);
    session = h.session;
    holds = keeps h.rest h.holds;
  };
  held_in = (keeps (take held buffer) (held_some buffer held few)).inside;
  written_in = inside;
  onward = omega arith;
  rest_kept = refl;
}

-- an answer written behind those before it
written_behind : {P : List ℕ → Type 0} (out : List ℕ) (at : ℕ) {after : List ℕ} {r : ℕ} → at ≤ length out → (p : LineWritten P (drop at out) after r)
    → (take (at + r) (take at out ++ after) ≡ take at out ++ p.line) × (at + r ≤ length (take at out ++ after)) × (drop (at + r) (take at out ++ after) ≡ drop (at + r) out)
written_behind out at {after} {r} inside p =
    let front = length-take-le at out inside in
    let both : length (take at out ++ p.line) ≡ at + r = length-append (take at out) p.line ∙ omega (arith, front, p.long) in
    let whole : take at out ++ after ≡ (take at out ++ p.line) ++ drop r (drop at out) = ap (λ (l : List ℕ). take at out ++ l) p.is ∙ sym (append_assoc (take at out) p.line (drop r (drop at out))) in (
      ap (take (at + r)) whole ∙ take_at (take at out ++ p.line) (drop r (drop at out)) (at + r) both,
      omega (arith, ap length whole, length-append (take at out ++ p.line) (drop r (drop at out)), both),
      ap (drop (at + r)) whole ∙ drop_at (take at out ++ p.line) (drop r (drop at out)) (at + r) both ∙ drop-drop r at out,
    )

pub heard_feed : {b : ℕ} {t u : List ℤ} {buffer : List ℕ} {held : ℕ} {out after : List ℕ} {written r : ℕ} → b ≡ line_feed → held ≤ length buffer → written ≤ length out
    → AnswersHeld buffer held t u (drop written out) after r → TakesByte b t buffer held out written u buffer 0 (take written out ++ after) (written + r)
heard_feed {b} {t} {u} {buffer} {held} {out} {after} {written} {r} feed few inside answers = record {
  hears = λ w begun bytes h.
      let answer = answers h.rest h.holds in
      record {
        lines = h.lines ++ h.rest ∷ [];
        rest = [];
        cut = rw append_assoc at (cut_feed feed h.cut);
        session = rw (written_behind out written inside answer).0 (and_line h.session answer.spelt);
        holds = held_none buffer;
      };
  held_in = omega arith;
  written_in = (written_behind out written inside (answers (take held buffer) (held_some buffer held few))).1;
  onward = omega arith;
  rest_kept = (written_behind out written inside (answers (take held buffer) (held_some buffer held few))).2;
}

-- the same as the code has it: the buffer is lent from a place on, and comes back
lent-rest : (out : List ℕ) (a : ℕ) → take (length out - a) (drop a out) ≡ drop a out
lent-rest out a = take_all (length out - a) (drop a out) (omega (arith, length-drop a out))

rest_back : (out : List ℕ) (a : ℕ) (after : List ℕ) → put_mid a (length out - a) out after ≡ take a out ++ after
rest_back out a after =
    let none : drop (length out - a) (drop a out) ≡ [] = drop_of_length-le (drop a out) {i = length out - a} (omega (arith, length-drop a out)) in
    rw (none, append-nil)

pub heard_lent : {b : ℕ} {t u : List ℤ} {buffer : List ℕ} {held : ℕ} (out : List ℕ) {after : List ℕ} (written : ℕ) {r : ℕ} → b ≡ line_feed → held ≤ length buffer → written ≤ length out
    → AnswersHeld buffer held t u (take (length out - written) (drop written out)) after r → TakesByte b t buffer held out written u buffer 0 (put_mid written (length out - written) out after) (written + r)
heard_lent out {after} written feed few inside answers =
    rw (rest_back out written after) (heard_feed feed few inside (λ line h. rw (lent-rest out written) at (answers line h)))

pub answer_fits : {t u : List ℤ} {buffer : List ℕ} {held : ℕ} {before after : List ℕ} {r : ℕ} → held ≤ length buffer → AnswersHeld buffer held t u before after r → r ≤ length before
answer_fits {buffer} {held} few answers = (answers (take held buffer) (held_some buffer held few)).fits

-- ---- a piece, byte by byte
-- what holds after i bytes of the piece
pub record SoFar (w : List ℤ) (buffer : List ℕ) (held : ℕ) (piece out₀ : List ℕ) (i : ℕ) (v : List ℤ) (buffer' : List ℕ) (held' : ℕ) (out : List ℕ) (written : ℕ) : Type 0 where
  pub hears : (begun : List ℕ) → NoFeed begun → LineHeld buffer held begun → Heard w begun (take i piece) v (take written out) buffer' held'
  pub taken_in : i ≤ length piece
  pub none_yet : i ≡ 0 → written ≡ 0
  pub held_in : held' ≤ length buffer'
  pub written_in : written ≤ length out
  pub rest_kept : drop written out ≡ drop written out₀

pub so_far_none : (w : List ℤ) (buffer : List ℕ) (held : ℕ) (piece out : List ℕ) → held ≤ length buffer → SoFar w buffer held piece out 0 w buffer held out 0
so_far_none w buffer held piece out few = record {
  hears = λ begun clean h. record { lines = []; rest = begun; cut = rw append-nil (cut_rest clean); session = no_line; holds = h };
  taken_in = omega arith;
  none_yet = λ e. refl;
  held_in = few;
  written_in = omega arith;
  rest_kept = refl;
}

-- what is the same from a place on is so from any later one on
dropped_on : (a b : ℕ) (x y : List ℕ) → a ≤ b → drop a x ≡ drop a y → drop b x ≡ drop b y
dropped_on a b x y h e =
    let k : a + (b - a) ≡ b = omega arith in
    rw k at (sym (drop-drop (b - a) a x) ∙ ap (drop (b - a)) e ∙ drop-drop (b - a) a y)

module _ {w : List ℤ} {buffer : List ℕ} {held : ℕ} {piece out₀ : List ℕ} {i : ℕ} {t : List ℤ} {buffer' : List ℕ} {held' : ℕ} {out : List ℕ} {written : ℕ}
    (s : SoFar w buffer held piece out₀ i t buffer' held' out written) where
  pub so_far_next : {t'' : List ℤ} {buffer'' : List ℕ} {held'' : ℕ} {out'' : List ℕ} {written'' : ℕ} → i < length piece
      → TakesByte (get_or piece i 0) t buffer' held' out written t'' buffer'' held'' out'' written'' → SoFar w buffer held piece out₀ (i + 1) t'' buffer'' held'' out'' written''
  so_far_next {written''} lt takes = record {
    hears = λ begun clean h. rw (add-one, take-suc piece i 0 lt) (takes.hears w begun (take i piece) (s.hears begun clean h));
    taken_in = omega arith;
    none_yet = λ e. absurd (omega arith);
    held_in = takes.held_in;
    written_in = takes.written_in;
    rest_kept = takes.rest_kept ∙ dropped_on written written'' out out₀ takes.onward s.rest_kept;
  }

  pub so_far_serves : (0 < length piece → 0 < i) → (written + longest_answer ≤ length out → i ≡ length piece) → Serves w buffer held piece out₀ t buffer' held' out i written
  so_far_serves some all =
      record { hears = s.hears; taken_in = s.taken_in; forward = some; all = all; held_in = s.held_in; written_in = s.written_in; rest_kept = s.rest_kept }

  -- with room for an answer at the start, a byte was taken
  pub some_taken : {longest : ℕ} → longest ≤ length out → length out - written < longest → 0 < i
  some_taken room full = not_zero i (λ e. omega (arith, s.none_yet e))
    where
      not_zero : (n : ℕ) → (n ≡ 0 → ⊥) → 0 < n
      not_zero zero h = absurd (h refl)
      not_zero (suc n) h = omega arith

-- ---- pieces one after the other are one piece
session_then : {w v u : List ℤ} {ls ms : List (List ℕ)} {a b : List ℕ} → Session w ls v a → Session v ms u b → Session w (ls ++ ms) u (a ++ b)
session_then {ls} {a} s no_line = rw (append-nil, append-nil) s
session_then {ls} {a} s (and_line {lines} {line} {answers} {answer} m l) =
    rw (← append_assoc ls lines (line ∷ []), ← append_assoc a answers answer) (and_line (session_then s m) l)

pub heard_then : {w v u : List ℤ} {begun p q a b buffer buffer' : List ℕ} {held held' : ℕ} (h : Heard w begun p v a buffer held) → Heard v h.rest q u b buffer' held'
    → Heard w begun (p ++ q) u (a ++ b) buffer' held'
heard_then {begun} {p} {q} h k = record {
  lines = h.lines ++ k.lines;
  rest = k.rest;
  cut = rw append_assoc at (cut_then q h.cut k.cut);
  session = session_then h.session k.session;
  holds = k.holds;
}

-- ---- the end of the input
module _ {buffer : List ℕ} {held : ℕ} (places : length buffer ≡ longest_line + 1) where
  pub ends_without : (w : List ℤ) (out : List ℕ) → held ≡ 0 → Ends w buffer held out w out 0
  ends_without w out none = record { answers = λ rest h. nothing rest h; written_in = omega arith; rest_kept = refl }
    where
      nothing : (rest : List ℕ) → LineHeld buffer held rest → Session w (last_line rest) w []
      nothing [] h = no_line
      nothing (b ∷ rest) h = absurd (omega (arith, ap length (held_whole h (omega arith)), ap (λ (n : ℕ). length (take n buffer)) none))

  pub ends_with : {w v : List ℤ} {before after : List ℕ} {r : ℕ} → held ≤ length buffer → (held ≡ 0 → ⊥) → AnswersHeld buffer held w v before after r → Ends w buffer held before v after r
  ends_with {w} {v} {before} {after} {r} few some answers = record { answers = λ rest h. one rest h; written_in = fits some_answer; rest_kept = kept some_answer }
    where
      whole : {P : List ℕ → Type 0} → (p : LineWritten P before after r) → take r after ≡ p.line
      whole p = ap (take r) p.is ∙ take_at p.line (drop r before) r (sym p.long)

      some_answer : LineWritten (Answered w (take held buffer) v) before after r
      some_answer = answers (take held buffer) (held_some buffer held few)

      kept : {P : List ℕ → Type 0} → LineWritten P before after r → drop r after ≡ drop r before
      kept p = ap (drop r) p.is ∙ drop_at p.line (drop r before) r (sym p.long)

      fits : {P : List ℕ → Type 0} → LineWritten P before after r → r ≤ length after
      fits p = omega (arith, p.long, ap length p.is, length-append p.line (drop r before))

      one : (rest : List ℕ) → LineHeld buffer held rest → Session w (last_line rest) v (take r after)
      one [] h = absurd (some (nothing_held h))
        where
          nothing_held : LineHeld buffer held [] → held ≡ 0
          nothing_held h = omega (arith, ap length h.is, length-take-le held buffer h.inside, ap length (take-nil {A = ℕ} (length buffer)))
      one (b ∷ rest) h = let p = answers (b ∷ rest) h in rw (whole p) (and_line no_line p.spelt)
