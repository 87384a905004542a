-- What reading finds in a line: a field, a row of them, and a form.
use Rattle.std.specs.Prelude.{◌≡◌, List, ◌∷◌, ℕ, ◌^◌, ◌≤◌, ℤ, Option, Some, None, length, drop}
use Rattle.whole.specs.Within.{Within}
use Rattle.desk_lines.specs.Forms.{Fields, Form}

-- z stands in the field at `at`, and the next field, if any, at `next`
pub record FieldAt (line : List ℕ) (at : ℕ) (z : ℤ) (next : ℕ) : Type 0 where
  pub inside : next ≤ length line
  pub small : Within (10 ^ 9) z
  pub more : (zs : List ℤ) → Fields zs (drop next line) → Fields (z ∷ zs) (drop at line)
  pub only : (y : ℤ) (ys : List ℤ) → Fields (y ∷ ys) (drop at line) → Fields ys (drop next line)

abbrev pub FieldRead : List ℕ → ℕ → Option (ℤ × ℕ) → Type 0
FieldRead line at (Some (z, next)) = FieldAt line at z next
FieldRead line at None = (y : ℤ) (ys : List ℤ) → Fields (y ∷ ys) (drop at line) → ⊥

-- whether l is n fields; if so, these are their numbers
abbrev pub FieldsRead : List ℕ → ℕ → Option (List ℤ) → Type 0
FieldsRead l n (Some zs) = (length zs ≡ n) × Fields zs l
FieldsRead l n None = (zs : List ℤ) → length zs ≡ n → Fields zs l → ⊥

-- whether the line is the word with n fields; if so, these are their numbers
abbrev pub FormRead : List ℕ → ℕ → List ℕ → Option (List ℤ) → Type 0
FormRead word n line (Some zs) = (length zs ≡ n) × Form word zs line
FormRead word n line None = (zs : List ℤ) → length zs ≡ n → Form word zs line → ⊥
