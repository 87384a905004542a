-- A cell goes or it stays, and stays exactly when it lives and is another one.
use Rattle.std.specs.Prelude.{◌≡◌, ℤ}
use Rattle.std.proofs.Common.{inl, inr, ⊎_elim}
use Rattle.std.proofs.Math.IntN.{ℤ_discrete}
use Rattle.whole.specs.Laws.Order.{<ℤ_stable}
use Rattle.track.specs.Life.{LivesAt}
use Rattle.track.specs.Laws.Life.{lives_decided}
use Rattle.track.specs.declared.cell.Cell.{Cell}
use Rattle.tree_laws.specs.Inner.Goes.{Goes}

pub living_stays : {minute id : ℤ} (c : Cell) → LivesAt minute c → (c.id ≡ id → ⊥) → Goes minute id c → ⊥
living_stays c lives other goes = ⊎_elim (λ over. over lives) other goes

pub staying_lives : {minute id : ℤ} (c : Cell) → (Goes minute id c → ⊥) → LivesAt minute c
staying_lives c stays = <ℤ_stable (λ over. stays (inl over))

pub dec_goes : (minute id : ℤ) (c : Cell) → Dec (Goes minute id c)
dec_goes minute id c = told (lives_decided minute c) (ℤ_discrete c.id id)
  where
    told : Dec (LivesAt minute c) → Dec (c.id ≡ id) → Dec (Goes minute id c)
    told (no over) d = yes (inl over)
    told (yes lives) (yes e) = yes (inr e)
    told (yes lives) (no other) = no (living_stays c lives other)
