use Rattle.std.proofs.Common.{◌≡◌, ◌≤◌, ◌+◌, List, [], ◌∷◌, ℕ, ℤ, length, w32, to_z, of_z, arith}
use Rattle.whole.specs.Within.{Within}
use Rattle.whole.specs.Laws.Within.{widen, read32}
use Rattle.track.specs.Laws.Numbers.{minute_in}
use Rattle.decimal.specs.Decimal.{SignedDecimal}
use Rattle.decimal.specs.Inner.PutBytes.{Put, TheseBytes}
use Rattle.decimal.specs.Laws.PutBytes.{put_long, word_end}
use Rattle.wkt.specs.Inner.PointPut.{farthest}
use Rattle.wkt.specs.Laws.PointPut.{room_position, room_minute, ends_position, ends_minute, point-put}
use Rattle.wkt.proofs.point.put_point.Goals as goal

-- a position and the space after it: what was put, and where they end at the latest
module _ {z : ℤ} {before after : List ℕ} {at r : ℕ} (h : Within farthest z) (p : Put (SignedDecimal (to_z w32 (of_z w32 z))) before at after r) where
  position : Put (SignedDecimal z) before at after r
  position = rw (read32 tt h) at p

  position_room : (r ≤ at + 9) × (length after ≡ length before)
  position_room = (ends_position h position, put_long position)

  space_room : {last : List ℕ} {e : ℕ} → Put (TheseBytes (32 ∷ [])) after r last e → (e ≤ at + 10) × (length last ≡ length before)
  space_room q =
      let x = position_room in
      (omega (arith, x.0, word_end q), omega (arith, x.1, put_long q))

pub put_signed-after_x-requires : goal.put_signed-after_x-requires
put_signed-after_x-requires c =
    let h = c.requires.0.x_in in
    rw (read32 tt h) (widen tt h, room_position c.args.at (length c.args.out.now) h (omega (arith, c.requires.1)))

pub put_text-y_at-requires : goal.put_text-y_at-requires
put_text-y_at-requires c =
    let x = position_room c.requires.0.x_in c.put_signed-after_x.ensures in
    omega (arith, x.0, x.1, c.requires.1)

pub put_signed-after_y-requires : goal.put_signed-after_y-requires
put_signed-after_y-requires c =
    let x = space_room c.requires.0.x_in c.put_signed-after_x.ensures c.put_text-y_at.ensures in
    let h = c.requires.0.y_in in
    rw (read32 tt h) (widen tt h, room_position c.put_text-y_at.result (length c.put_text-y_at.new.out) h (omega (arith, x.0, x.1, c.requires.1)))

pub put_text-m_at-requires : goal.put_text-m_at-requires
put_text-m_at-requires c =
    let x = space_room c.requires.0.x_in c.put_signed-after_x.ensures c.put_text-y_at.ensures in
    let y = position_room c.requires.0.y_in c.put_signed-after_y.ensures in
    omega (arith, x.0, x.1, y.0, y.1, c.requires.1)

pub put_signed-requires : goal.put_signed-requires
put_signed-requires c =
    let x = space_room c.requires.0.x_in c.put_signed-after_x.ensures c.put_text-y_at.ensures in
    let y = space_room c.requires.0.y_in c.put_signed-after_y.ensures c.put_text-m_at.ensures in
    let h = c.requires.0.minute_in in
    rw (read32 tt (minute_in h)) (widen tt (minute_in h), room_minute c.put_text-m_at.result (length c.put_text-m_at.new.out) h (omega (arith, x.0, x.1, y.0, y.1, c.requires.1)))

pub returns : goal.returns
returns c =
    let x = space_room c.requires.0.x_in c.put_signed-after_x.ensures c.put_text-y_at.ensures in
    let y = space_room c.requires.0.y_in c.put_signed-after_y.ensures c.put_text-m_at.ensures in
    let h = c.requires.0.minute_in in
    let put : Put (SignedDecimal c.args.p.minute) c.put_text-m_at.new.out c.put_text-m_at.result c.put_signed.new.out c.put_signed.result = rw (read32 tt (minute_in h)) at c.put_signed.ensures in (
      point-put (position c.requires.0.x_in c.put_signed-after_x.ensures) c.put_text-y_at.ensures (position c.requires.0.y_in c.put_signed-after_y.ensures) c.put_text-m_at.ensures put,
      omega (arith, x.0, y.0, ends_minute h put),
    )
