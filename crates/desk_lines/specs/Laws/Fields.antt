-- Bytes are at most one row of fields; and a field taken off the front.
use Rattle.std.specs.Prelude.{◌≡◌, refl, List, [], ◌∷◌, ◌++◌, ℕ, ℤ}
use Rattle.std.proofs.Common.{arith}
use Rattle.decimal.specs.Spells.{Spells}
use Rattle.decimal.specs.Inner.DigitRuns.{Stops}
use Rattle.decimal.specs.Laws.Spells.{no_digit, same_spelling}
use Rattle.desk_lines.specs.Forms.{Fields, no_field, field}

pub fields_stop : {zs : List ℤ} {l : List ℕ} → Fields zs l → Stops l
fields_stop no_field = tt
fields_stop (field s f) = no_digit (omega arith)

pub same_fields : {ys zs : List ℤ} {l m : List ℕ} → Fields ys l → Fields zs m → l ≡ m → ys ≡ zs
same_fields no_field no_field e = refl
same_fields no_field (field s f) e = cc
same_fields (field s f) no_field e = cc
same_fields (field {s} {rest = p} y f) (field {s = t} {rest = q} z g) e =
    let tails : s ++ p ≡ t ++ q = cc in
    let r = same_spelling y z (fields_stop f) (fields_stop g) tails in
    let first = r.0 in
    let others = same_fields f g r.1 in
    cc

-- a field taken off the front
pub record FirstField (z : ℤ) (zs : List ℤ) (l : List ℕ) : Type 0 where
  pub spelling : List ℕ
  pub rest : List ℕ
  pub spells : Spells z spelling
  pub others : Fields zs rest
  pub is : l ≡ 32 ∷ (spelling ++ rest)

pub first_field : {z : ℤ} {zs : List ℤ} {l : List ℕ} → Fields (z ∷ zs) l → FirstField z zs l
first_field (field {s} {rest} t f) = record { spelling = s; rest = rest; spells = t; others = f; is = refl }

pub fields_nil : {l : List ℕ} → Fields [] l → l ≡ []
fields_nil no_field = refl
