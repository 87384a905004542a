-- A line put together from its words and points.
use Rattle.std.specs.Prelude.{◌≡◌, List, ◌++◌, ℕ}
use Rattle.decimal.specs.Inner.PutBytes.{Put, TheseBytes}
use Rattle.decimal.specs.Laws.PutBytes.{put_then}
use Rattle.wkt.specs.TrackLine.{line_string_word, comma, closing, PointText, TrackForm}
use Rattle.wkt.specs.declared.point.Point.{Point}

-- a point's text, and the end of the line
abbrev Closed : Point → List ℕ → Type 0
Closed p s = (a : List ℕ) × PointText p a × (s ≡ a ++ closing)

closed : {p : Point} (a b : List ℕ) → PointText p a → b ≡ closing → Closed p (a ++ b)
closed a b t e = (a, t, rw e)

pub track_form_put : {before b₁ b₂ b₃ b₄ b₅ : List ℕ} {r₁ r₂ r₃ r₄ r₅ : ℕ} {p q : Point} → Put (TheseBytes line_string_word) before 0 b₁ r₁ → Put (PointText p) b₁ r₁ b₂ r₂
    → Put (TheseBytes comma) b₂ r₂ b₃ r₃ → Put (PointText q) b₃ r₃ b₄ r₄ → Put (TheseBytes closing) b₄ r₄ b₅ r₅ → Put (TrackForm p q) before 0 b₅ r₅
track_form_put {b₁} {b₂} {b₃} {b₅} {r₁} {r₂} {r₃} {r₅} {p} {q} word first between last close =
    let end : Put (Closed q) b₃ r₃ b₅ r₅ = put_then last close closed in
    let tail : Put (λ s. (a : List ℕ) × PointText q a × (s ≡ comma ++ (a ++ closing))) b₂ r₂ b₅ r₅ = put_then between end (λ a b e h. (h.0, h.1, rw (e, h.2))) in
    let rest : Put (λ s. (a : List ℕ) × (c : List ℕ) × PointText p a × PointText q c × (s ≡ a ++ (comma ++ (c ++ closing)))) b₁ r₁ b₅ r₅ = put_then first tail (λ a b t h. (a, h.0, t, h.1, rw h.2)) in
    put_then word rest (λ a b e h. record { from = h.0; to = h.1; from_spelt = h.2; to_spelt = h.3; is = rw (e, h.4) })
