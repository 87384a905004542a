-- A point put together from its three numbers, and how long its bytes are.
use Rattle.std.specs.Prelude.{◌≡◌, List, [], ◌∷◌, ◌++◌, ℕ, zero, suc, ◌+◌, ◌≤◌, length, ℤ}
use Rattle.std.proofs.Common.{not-suc-le-zero, arith, length-append}
use Rattle.whole.specs.Within.{Within}
use Rattle.track.specs.Numbers.{IsMinute}
use Rattle.track.specs.Laws.Numbers.{minute_in}
use Rattle.decimal.specs.Decimal.{SignedDecimal, without_sign, below_zero}
use Rattle.decimal.specs.Laws.SignedDecimal.{signed_short}
use Rattle.decimal.specs.Laws.Decimal.{decimal_short}
use Rattle.decimal.specs.Inner.PutBytes.{EndsBy, Put, TheseBytes}
use Rattle.decimal.specs.Laws.PutBytes.{put_then, put_within}
use Rattle.wkt.specs.TrackLine.{PointText}
use Rattle.wkt.specs.Inner.PointPut.{farthest, longest_point, PointInRange}
use Rattle.wkt.specs.declared.point.Point.{Point}

-- ---- lengths: a sign and eight digits; four digits
pub position_short : {z : ℤ} {s : List ℕ} → Within farthest z → SignedDecimal z s → length s ≤ 9
position_short h g = signed_short 7 g (omega (arith, h.abs))

pub minute_short : {z : ℤ} {s : List ℕ} → IsMinute z → SignedDecimal z s → length s ≤ 4
minute_short h (without_sign g) = decimal_short 3 g (omega (arith, (minute_in h).abs))
minute_short h (below_zero {n = zero} g some) = absurd (not-suc-le-zero some)
minute_short h (below_zero {n = suc n} g some) = absurd h.from.le

pub point_short : {p : Point} {s : List ℕ} → PointInRange p → PointText p s → length s ≤ longest_point
point_short h t =
    let x = t.x_text in
    let y = t.y_text in
    let m = t.m_text in
    rw t.is (omega (arith, length-append x (32 ∷ (y ++ (32 ∷ m))), length-append y (32 ∷ m), position_short h.x_in t.x_spelt, position_short h.y_in t.y_spelt, minute_short h.minute_in t.m_spelt))

-- ---- room for them, and where they end
pub room_position : {z : ℤ} (at end : ℕ) → Within farthest z → at + 9 ≤ end → EndsBy (SignedDecimal z) at end
room_position at end h room = λ s g. omega (arith, position_short h g)

pub room_minute : {z : ℤ} (at end : ℕ) → IsMinute z → at + 4 ≤ end → EndsBy (SignedDecimal z) at end
room_minute at end h room = λ s g. omega (arith, minute_short h g)

pub ends_position : {z : ℤ} {before after : List ℕ} {at r : ℕ} → Within farthest z → Put (SignedDecimal z) before at after r → r ≤ at + 9
ends_position h p = put_within p 9 (λ s g. position_short h g)

pub ends_minute : {z : ℤ} {before after : List ℕ} {at r : ℕ} → IsMinute z → Put (SignedDecimal z) before at after r → r ≤ at + 4
ends_minute h p = put_within p 4 (λ s g. minute_short h g)

-- ---- put together
module _ {before b₁ b₂ b₃ b₄ b₅ : List ℕ} {at r₁ r₂ r₃ r₄ r₅ : ℕ} {p : Point} where
  pub point-put : Put (SignedDecimal p.x) before at b₁ r₁ → Put (TheseBytes (32 ∷ [])) b₁ r₁ b₂ r₂ → Put (SignedDecimal p.y) b₂ r₂ b₃ r₃ → Put (TheseBytes (32 ∷ [])) b₃ r₃ b₄ r₄
      → Put (SignedDecimal p.minute) b₄ r₄ b₅ r₅ → Put (PointText p) before at b₅ r₅
  point-put x space y space₂ m =
      let end : Put (λ s. (t : List ℕ) × SignedDecimal p.minute t × (s ≡ 32 ∷ t)) b₃ r₃ b₅ r₅ = put_then space₂ m (λ a b e g. (b, g, rw e)) in
      let last : Put (λ s. (u : List ℕ) × (t : List ℕ) × SignedDecimal p.y u × SignedDecimal p.minute t × (s ≡ u ++ (32 ∷ t))) b₂ r₂ b₅ r₅ = put_then y end (λ a b g h. (a, h.0, g, h.1, rw h.2)) in
      let rest : Put (λ s. (u : List ℕ) × (t : List ℕ) × SignedDecimal p.y u × SignedDecimal p.minute t × (s ≡ 32 ∷ (u ++ (32 ∷ t)))) b₁ r₁ b₅ r₅ = put_then space last (λ a b e h. (h.0, h.1, h.2, h.3, rw (e, h.4))) in
      put_then x rest (λ a b g h. record { x_text = a; y_text = h.0; m_text = h.1; x_spelt = g; y_spelt = h.2; m_spelt = h.3; is = rw h.4 })
