-- A piece is heard part by part.
use Rattle.std.specs.Prelude.{◌≡◌, List, [], ◌++◌, ℕ, ◌+◌, ◌-◌, ℤ, length, take, drop}
use Rattle.std.proofs.Common.{append-nil, arith, length-drop, take_all, take-add}
use Rattle.desk_lines.specs.Laws.Lines.{cut_rest}
use Rattle.desk_serve.specs.Answered.{no_line}
use Rattle.desk_serve.specs.Served.{Serves}
use Rattle.desk_serve.specs.Laws.Serving.{heard_then}
use Rattle.desk.specs.Talked.{HearsAll}

pub heard_none : (w : List ℤ) (buffer : List ℕ) (held : ℕ) → HearsAll w buffer held [] w buffer held
heard_none w buffer held = λ begun clean h.
    ([], record { lines = []; rest = begun; cut = rw append-nil (cut_rest clean); session = no_line; holds = h })

pub hears_then : {w t v : List ℤ} {buffer buffer' buffer'' : List ℕ} {held held' held'' : ℕ} {p q : List ℕ} → HearsAll w buffer held p t buffer' held' → HearsAll t buffer' held' q v buffer'' held''
    → HearsAll w buffer held (p ++ q) v buffer'' held''
hears_then first second = λ begun clean h.
    let before = first begun clean h in
    let after = second before.1.rest before.1.cut.clean_rest before.1.holds in
    (before.0 ++ after.0, heard_then before.1 after.1)

-- one call of serve more
pub heard_more : {w : List ℤ} {buffer : List ℕ} {held : ℕ} (piece : List ℕ) (from : ℕ) {t : List ℤ} {buffer' : List ℕ} {held' : ℕ} {v : List ℤ} {buffer'' : List ℕ} {held'' : ℕ} {out out' : List ℕ} {taken written : ℕ}
    → HearsAll w buffer held (take from piece) t buffer' held' → Serves t buffer' held' (take (length piece - from) (drop from piece)) out v buffer'' held'' out' taken written
    → HearsAll w buffer held (take (from + taken) piece) v buffer'' held''
heard_more piece from {out'} {taken} {written} so_far s =
    let all : take (length piece - from) (drop from piece) ≡ drop from piece = take_all (length piece - from) (drop from piece) (omega (arith, length-drop from piece)) in
    rw (take-add from taken piece) (hears_then so_far (λ begun clean h. (take written out', rw all at (s.hears begun clean h))))
