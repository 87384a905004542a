-- A cell has one line, and it has one; how long that is at most. And a form has one pair of points.
use Rattle.std.specs.Prelude.{◌≡◌, refl, List, ◌∷◌, ◌++◌, ℕ, ◌≤◌, ℤ, length, ◌<ℤ◌}
use Rattle.std.proofs.Common.{sym, ap, ◌∙◌, subst, append_assoc, arith, length-append}
use Rattle.std.proofs.Math.IntN.{ℤ_discrete}
use Rattle.std.specs.Int.Signed.{<ℤ_irrefl}
use Rattle.track.specs.Numbers.{IsMinute}
use Rattle.track.specs.Life.{LivesAt, CellInRange}
use Rattle.track.specs.declared.cell.Cell.{Cell}
use Rattle.decimal.specs.Decimal.{SignedDecimal}
use Rattle.decimal.specs.Inner.DigitRuns.{Stops}
use Rattle.decimal.specs.Laws.Spells.{no_digit, same_signed}
use Rattle.decimal.specs.Laws.SignedDecimal.{signed_digits, one_signed, signed_exists}
use Rattle.wkt.specs.Metres.{stands_at}
use Rattle.wkt.specs.TrackLine.{point_word, line_string_word, comma, closing, PointText, PointForm, TrackForm, LineOf, at_one_point, from_to}
use Rattle.wkt.specs.Inner.LinePut.{longest}
use Rattle.wkt.specs.Laws.Metres.{stands_in}
use Rattle.wkt.specs.Laws.PointPut.{point_short}
use Rattle.wkt.specs.declared.point.Point.{Point}

-- ---- one line
one_point : {p : Point} {s t : List ℕ} → PointText p s → PointText p t → s ≡ t
one_point g h =
    let x = one_signed g.x_spelt h.x_spelt refl in
    let y = one_signed g.y_spelt h.y_spelt refl in
    let m = one_signed g.m_spelt h.m_spelt refl in
    g.is ∙ rw (x, y, m) (sym h.is)

one_point_form : {p : Point} {s t : List ℕ} → PointForm p s → PointForm p t → s ≡ t
one_point_form g h = g.is ∙ rw (one_point g.spelt h.spelt) (sym h.is)

one_track_form : {p q : Point} {s t : List ℕ} → TrackForm p q s → TrackForm p q t → s ≡ t
one_track_form g h =
    let from = one_point g.from_spelt h.from_spelt in
    let to = one_point g.to_spelt h.to_spelt in
    g.is ∙ rw (from, to) (sym h.is)

pub one_line : {clock : ℤ} {c : Cell} {s t : List ℕ} → LineOf clock c s → LineOf clock c t → s ≡ t
one_line (at_one_point e g) (at_one_point f h) = one_point_form g h
one_line (at_one_point e g) (from_to n h) = absurd (n e)
one_line (from_to n g) (at_one_point e h) = absurd (n e)
one_line (from_to n g) (from_to m h) = one_track_form g h

-- ---- of a cell that lives at the clock it is a LINESTRING
not_at_expiry : (clock : ℤ) (c : Cell) → LivesAt clock c → c.expiry.at ≡ clock → ⊥
not_at_expiry clock c lives e = <ℤ_irrefl (subst (λ (t : ℤ). clock <ℤ t) e lives)

pub live_line : {clock : ℤ} {c : Cell} {line : List ℕ} → LivesAt clock c → LineOf clock c line → TrackForm (stands_at c clock) (stands_at c c.expiry.at) line
live_line {clock} {c} lives (at_one_point e form) = absurd (not_at_expiry clock c lives e)
live_line lives (from_to n form) = form

pub line_of_live : {clock : ℤ} {c : Cell} {line : List ℕ} → LivesAt clock c → TrackForm (stands_at c clock) (stands_at c c.expiry.at) line → LineOf clock c line
line_of_live {clock} {c} lives form = from_to (not_at_expiry clock c lives) form

-- ---- there is one
point_exists : (p : Point) → (s : List ℕ) × PointText p s
point_exists p =
    let x = signed_exists p.x in
    let y = signed_exists p.y in
    let m = signed_exists p.minute in
    (x.0 ++ (32 ∷ (y.0 ++ (32 ∷ m.0))), record { x_text = x.0; y_text = y.0; m_text = m.0; x_spelt = x.1; y_spelt = y.1; m_spelt = m.1; is = refl })

pub line_exists : (clock : ℤ) (c : Cell) → (line : List ℕ) × LineOf clock c line
line_exists clock c = by (ℤ_discrete c.expiry.at clock)
  where
    by : Dec (c.expiry.at ≡ clock) → (line : List ℕ) × LineOf clock c line
    by (yes e) =
        let p = point_exists (stands_at c clock) in
        (point_word ++ (p.0 ++ closing), at_one_point e (record { point = p.0; spelt = p.1; is = refl }))
    by (no n) =
        let p = point_exists (stands_at c clock) in
        let q = point_exists (stands_at c c.expiry.at) in
        (line_string_word ++ (p.0 ++ (comma ++ (q.0 ++ closing))), from_to n (record { from = p.0; to = q.0; from_spelt = p.1; to_spelt = q.1; is = refl }))

-- ---- how long it is
pub line_some : {clock : ℤ} {c : Cell} {line : List ℕ} → LineOf clock c line → 1 ≤ length line
line_some (at_one_point e g) = rw g.is (omega arith)
line_some (from_to n g) = rw g.is (omega arith)

pub line_length : {clock : ℤ} {c : Cell} {line : List ℕ} → CellInRange c → IsMinute clock → LineOf clock c line → length line ≤ longest
line_length h m (at_one_point e g) = rw g.is (omega (arith, length-append g.point closing, point_short (stands_in h m) g.spelt))
line_length h m (from_to n g) =
    let a = g.from in
    let b = g.to in
    rw g.is
    (omega (arith, length-append a (comma ++ (b ++ closing)), length-append b closing, point_short (stands_in h m) g.from_spelt, point_short (stands_in h h.expiry_in) g.to_spelt))

-- ---- two ways to cut bytes after a point are one
-- a point's text and what follows, number by number
pub point_spread : {p : Point} {s : List ℕ} (g : PointText p s) (rest : List ℕ) → s ++ rest ≡ g.x_text ++ (32 ∷ (g.y_text ++ (32 ∷ (g.m_text ++ rest))))
point_spread g rest =
    ap (λ (l : List ℕ). l ++ rest) g.is ∙ append_assoc g.x_text (32 ∷ (g.y_text ++ (32 ∷ g.m_text))) rest
    ∙ ap (λ (l : List ℕ). g.x_text ++ (32 ∷ l)) (append_assoc g.y_text (32 ∷ g.m_text) rest)

cut_once : {y z : ℤ} {s t a b : List ℕ} → SignedDecimal y s → SignedDecimal z t → Stops a → Stops b → s ++ a ≡ t ++ b → (y ≡ z) × (a ≡ b)
cut_once g h = same_signed (signed_digits g) (signed_digits h)

pub same_point : {p q : Point} → p.x ≡ q.x → p.y ≡ q.y → p.minute ≡ q.minute → p ≡ q
same_point x y m i = record { x = x i; y = y i; minute = m i }

point_cut_once : {p q : Point} {s t a b : List ℕ} → PointText p s → PointText q t → Stops a → Stops b → s ++ a ≡ t ++ b → (p ≡ q) × (a ≡ b)
point_cut_once {p} {q} {s} {t} {a} {b} g h stops stops' e =
    let whole = sym (point_spread g a) ∙ e ∙ point_spread h b in
    let x = cut_once g.x_spelt h.x_spelt (no_digit (omega arith)) (no_digit (omega arith)) whole in
    let after-x : g.y_text ++ (32 ∷ (g.m_text ++ a)) ≡ h.y_text ++ (32 ∷ (h.m_text ++ b)) = let f = x.1 in cc in
    let y = cut_once g.y_spelt h.y_spelt (no_digit (omega arith)) (no_digit (omega arith)) after-x in
    let after-y : g.m_text ++ a ≡ h.m_text ++ b = let f = y.1 in cc in
    let m = cut_once g.m_spelt h.m_spelt stops stops' after-y in
    (same_point x.0 y.0 m.0, m.1)

pub form_fixed : {p q p' q' : Point} {line : List ℕ} → TrackForm p q line → TrackForm p' q' line → (p ≡ p') × (q ≡ q')
form_fixed g h =
    let e = sym g.is ∙ h.is in
    let after-word : g.from ++ (comma ++ (g.to ++ closing)) ≡ h.from ++ (comma ++ (h.to ++ closing)) = cc in
    let first = point_cut_once g.from_spelt h.from_spelt (no_digit (omega arith)) (no_digit (omega arith)) after-word in
    let after-comma : g.to ++ closing ≡ h.to ++ closing = let f = first.1 in cc in
    let last = point_cut_once g.to_spelt h.to_spelt (no_digit (omega arith)) (no_digit (omega arith)) after-comma in
    (first.0, last.0)
