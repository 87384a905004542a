-- The live cells of a table: each is in range; there is one list of them, it is no longer than a table may hold, and it depends on which cells are live alone, as does every step.
use Rattle.std.specs.Prelude.{◌≡◌, ◌↔◌, List, [], ◌∷◌, map, ◌≤◌, ℤ, length, ◌<ℤ◌, Option}
use Rattle.std.proofs.Common.{arith}
use Rattle.std.specs.Int.Signed.{<ℤ_irrefl}
use Rattle.whole.specs.Lists.{◌⊆◌}
use Rattle.whole.specs.Laws.Lists.{no_repeat_fits}
use Rattle.whole.specs.Laws.Order.{<ℤ_trans}
use Rattle.whole.specs.Rising.{Rising, rising_none, rising_one, rising_more}
use Rattle.whole.specs.Laws.Rising.{rising_no_repeat, rising_same}
use Rattle.track.specs.Life.{identifier, CellInRange}
use Rattle.track.specs.declared.cell.Cell.{Cell}
use Rattle.table.specs.Header.{capacity, greatest_capacity}
use Rattle.table.specs.Laws.Header.{capacity_low}
use Rattle.table.specs.Sound.{Sound, Live}
use Rattle.table.specs.Laws.SoundBy.{held_in}
use Rattle.leafing.specs.NextLive.{Steps}
use Rattle.leafing.specs.Laws.NextLive.{steps_fixed}
use Rattle.leafing.specs.Laws.Search.{next_as}
use Rattle.leafing.specs.Leafed.{LiveCells}

-- c has the lesser identifier
abbrev Before : Cell → Cell → Type 0
Before c d = c.id <ℤ d.id

rising_cells : (l : List Cell) → Rising ◌<ℤ◌ (map identifier l) → Rising Before l
rising_cells [] up = rising_none
rising_cells (c ∷ []) up = rising_one
rising_cells (c ∷ d ∷ l) (rising_more lt up) = rising_more lt (rising_cells (d ∷ l) up)

-- cells with rising identifiers are known by which they are
pub same_cells : {l m : List Cell} → Rising ◌<ℤ◌ (map identifier l) → Rising ◌<ℤ◌ (map identifier m) → l ⊆ m → m ⊆ l → l ≡ m
same_cells {l} {m} up-l up-m to from = rising_same (λ x y z. <ℤ_trans) (λ x. <ℤ_irrefl) (rising_cells l up-l) (rising_cells m up-m) to from

pub live_same_list : {v w : List ℤ} {l m : List Cell} → ((c : Cell) → Live v c ↔ Live w c) → LiveCells v l → LiveCells w m → l ≡ m
live_same_list same a b =
    same_cells a.rising b.rising (λ c i. b.all c ((same c).0 (a.only c i))) (λ c i. a.all c ((same c).1 (b.only c i)))

pub live_as : {v w : List ℤ} {cells : List Cell} → ((c : Cell) → Live v c ↔ Live w c) → LiveCells v cells → LiveCells w cells
live_as same l = record { rising = l.rising; only = λ c m. (same c).0 (l.only c m); all = λ c m. l.all c ((same c).1 m) }

pub live_in_range : {w : List ℤ} → Sound w → {c : Cell} → Live w c → CellInRange c
live_in_range sound live = held_in sound live.is_held

pub live_within : {w : List ℤ} → Sound w → {cells : List Cell} → LiveCells w cells → length cells ≤ capacity w
live_within {w} sound {cells} live =
    let once = rising_no_repeat (λ x y z. <ℤ_trans) (λ x. <ℤ_irrefl) (rising_cells cells live.rising) in
    omega (arith, no_repeat_fits once (λ c m. (live.only c m).is_held), sound.few_cells)

pub live_few : {w : List ℤ} → Sound w → {cells : List Cell} → LiveCells w cells → length cells ≤ greatest_capacity
live_few sound live = omega (arith, live_within sound live, capacity_low sound.capacity_in)

-- ---- so does a step: two tables with the same live cells, both sound or neither, give the same
pub steps_same : {v w : List ℤ} {last : ℤ} (r s : Option Cell) → ((c : Cell) → Live v c ↔ Live w c) → Sound v ↔ Sound w → Steps v last r → Steps w last s → r ≡ s
steps_same {v} {w} {last} r s live sound p q = steps_fixed r s as_of_w q
  where
    as_of_w : Steps w last r
    as_of_w = record {
      sound = λ t. next_as (Live v) (Live w) last (λ c. (live c).0) (λ c l up. (live c).1 l) r (p.sound (sound.1 t));
      unsound = λ n. p.unsound (λ t. n (sound.0 t));
    }
