-- One number, one total and the same bytes only fit a writing of tracks, one number and one record a reading.
use Rattle.std.specs.Prelude.{◌≡◌, List, ℕ, ℤ, pos, Result}
use Rattle.std.proofs.Common.{sym, ap, ◌∙◌}
use Rattle.sheet.specs.Sheet.{cell_numbers}
use Rattle.wkt.specs.Laws.TrackRead.{read_track_fixed}
use Rattle.charting.specs.Laws.Charted.{charted_fixed}
use Rattle.calls.specs.TrackCalls.{track_cell, TracksGives, ReadTrackGives}
use Rattle.calls.specs.Laws.SheetCalls.{numbers_fixed}
use Rattle.track.specs.declared.cell.Cell.{Cell}
use Rattle.track.specs.declared.refusal.Refusal.{Refusal}
use Rattle.track.specs.Refusals.{number_of}

pub tracks_fixed : {w : List ℤ} {bytes : List ℕ} {r total : ℤ} {bytes' : List ℕ} {s total₂ : ℤ} {bytes'' : List ℕ}
    → TracksGives w bytes r total bytes' → TracksGives w bytes s total₂ bytes'' → (r ≡ s) × (total ≡ total₂) × (bytes' ≡ bytes'')
tracks_fixed f g =
    let same = charted_fixed f.charts g.charts in
    let numbers = numbers_fixed same.0 f.in_numbers g.in_numbers in
    (numbers.0, numbers.1, same.1)

pub read_track_gives_fixed : {id : ℤ} {line : List ℕ} {r : ℤ} {numbers : List ℤ} {s : ℤ} {numbers₂ : List ℤ}
    → ReadTrackGives id line r numbers → ReadTrackGives id line s numbers₂ → (r ≡ s) × (numbers ≡ numbers₂)
read_track_gives_fixed f g =
    let same = read_track_fixed f.read g.read f.reads g.reads in (
      f.number_is ∙ ap (λ (a : Result Cell Refusal). pos (number_of a)) same ∙ sym g.number_is,
      f.record_is ∙ ap (λ (a : Result Cell Refusal). cell_numbers (track_cell a)) same ∙ sym g.record_is,
    )
