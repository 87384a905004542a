-- What the viewer is told of bytes: 1 for a well-formed sheet, else the first refusal's number; `gives_fixed` says that one number only fits it.
use Rattle.std.specs.Prelude.{List, [], ◌∷◌, ◌++◌, ℕ}
use Rattle.track.specs.Numbers.{most_cells}
use Rattle.track.specs.Refusals.{Reason, ◌when◌}
use Rattle.sheet.specs.WellFormed.{SheetSound, sheet_reasons}

abbrev pub sheet_answers : List ℕ → List Reason
sheet_answers bytes = sheet_reasons most_cells bytes ++ 1 when SheetSound most_cells bytes ∷ []
