-- What is accepted is well formed: where 11 and 12 are not given no clause of a header or of records can be denied, so each holds.
use Rattle.std.specs.Prelude.{List, map, ℕ, ℤ, length}
use Rattle.std.proofs.Math.Decide.{dec_le}
use Rattle.whole.specs.Laws.Order.{≤ℤ_stable, <ℤ_stable, ≡ℤ_stable}
use Rattle.whole.specs.Laws.Rising.{rising_stable}
use Rattle.whole.specs.Laws.Tells.{dec_stable}
use Rattle.track.specs.Laws.Accepted.{minute_stable, cell_stable}
use Rattle.track.specs.Life.{identifier}
use Rattle.track.specs.declared.cell.Cell.{Cell}
use Rattle.sheet.specs.Sheet.{header_bytes}
use Rattle.sheet.specs.WellFormed.{IsCountTo, HeaderSound, CellsSound}

count_stable : {limit : ℕ} {z : ℤ} → ((IsCountTo limit z → ⊥) → ⊥) → IsCountTo limit z
count_stable f = record { from = ≤ℤ_stable (λ n. f (λ h. n h.from)); to = ≤ℤ_stable (λ n. f (λ h. n h.to)) }

pub header_stable : {limit : ℕ} {bytes : List ℕ} → ((HeaderSound limit bytes → ⊥) → ⊥) → HeaderSound limit bytes
header_stable {bytes} f = record {
  whole_header = dec_stable (dec_le header_bytes (length bytes)) (λ n. f (λ h. n h.whole_header));
  count_in = count_stable (λ n. f (λ h. n h.count_in));
  offset_is = ≡ℤ_stable (λ n. f (λ h. n h.offset_is));
  clock_in = minute_stable (λ n. f (λ h. n h.clock_in));
  total_is = ≡ℤ_stable (λ n. f (λ h. n h.total_is));
  total_given = ≡ℤ_stable (λ n. f (λ h. n h.total_given));
}

pub records_stable : {clock : ℤ} {cells : List Cell} → ((CellsSound clock cells → ⊥) → ⊥) → CellsSound clock cells
records_stable {cells} f = record {
  in_range = λ c m. cell_stable (λ n. f (λ h. n (h.in_range c m)));
  in_life = λ c m. <ℤ_stable (λ n. f (λ h. n (h.in_life c m)));
  rising = rising_stable (λ a b. <ℤ_stable) (map identifier cells) (λ n. f (λ h. n h.rising));
}
