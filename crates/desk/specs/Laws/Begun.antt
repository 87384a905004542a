-- With the words that it needs, making a fresh table for the desk's cells is never refused.
use Rattle.std.specs.Prelude.{◌≡◌, List, ℕ, ℤ, pos, length}
use Rattle.std.proofs.Common.{inl, inr, arith}
use Rattle.std.specs.Int.Signed.{le_z_yes}
use Rattle.words.specs.Laws.Words.{nat_of-pos}
use Rattle.track.specs.Refusals.{First}
use Rattle.table.specs.Header.{words_for}
use Rattle.table.specs.Fresh.{fresh_reasons, MakesFresh, IsFresh}
use Rattle.desk_serve.specs.Answered.{desk_cells}

pub made_unrefused : {w v : List ℤ} {n : ℕ} → length w ≡ words_for desk_cells → MakesFresh (pos desk_cells) w n v → n ≡ 0
made_unrefused {w} {n} long made = by made.refusal
  where
    by : First (fresh_reasons (pos desk_cells) w) n → n ≡ 0
    by (inl h) = absurd (h.0 (record { from = le_z_yes tt; to = le_z_yes tt }))
    by (inr (h, inl g)) = absurd (omega (arith, rw (nat_of-pos desk_cells) at g.0))
    by (inr (h, inr (k, g))) = g

pub made_fresh : {w v : List ℤ} {n : ℕ} → length w ≡ words_for desk_cells → MakesFresh (pos desk_cells) w n v → IsFresh (pos desk_cells) w v
made_fresh long made = made.accepted (made_unrefused long made)
