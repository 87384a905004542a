-- A law for each way through the code that reads a field.
use Rattle.std.specs.Prelude.{◌≡◌, List, ◌++◌, ℕ, ◌+◌, ◌≤◌, ◌<◌, ℤ, Option, Some, None, length, get_or, drop}
use Rattle.std.proofs.Common.{sym, ◌∙◌, arith, drop_of_length-le}
use Rattle.std.proofs.Math.Decide.{dec_lt}
use Rattle.decimal.specs.Inner.NumberRead.{NumberRead}
use Rattle.decimal.specs.Laws.NumberRead.{first_is, first_of}
use Rattle.decimal.specs.Laws.Spells.{same_spelling, spells_in}
use Rattle.desk_lines.specs.Forms.{field}
use Rattle.desk_lines.specs.Inner.FieldsRead.{FieldRead}
use Rattle.desk_lines.specs.Laws.Fields.{fields_stop, first_field}

module _ (line : List ℕ) (at : ℕ) where
  pub no_field_left : length line ≤ at → FieldRead line at None
  no_field_left h = λ y ys f.
      let e = sym (drop_of_length-le line h) ∙ (first_field f).is in
      let z : ◌≡◌ {A = ℕ} 0 1 = cc in
      omega arith

  pub no_space : at < length line → (get_or line at 0 ≡ 32 → ⊥) → FieldRead line at None
  no_space h other = λ y ys f. other (first_of line at h (first_field f).is)

  -- no byte stands there, or another than a space
  pub no_field_there : (at < length line → get_or line at 0 ≡ 32 → ⊥) → FieldRead line at None
  no_field_there other = by (dec_lt at (length line))
    where
      by : Dec (at < length line) → FieldRead line at None
      by (yes h) = no_space h (other h)
      by (no h) = no_field_left (omega arith)

  pub after_space : (r : Option (ℤ × ℕ)) → at < length line → get_or line at 0 ≡ 32 → NumberRead line (at + 1) r → FieldRead line at r
  after_space (Some (z, next)) h first (inside, b) = record {
    inside = inside;
    small = spells_in b.spells;
    more = λ zs f. rw (first_is line at h 32 first, b.is) (field b.spells f);
    only = λ y ys f.
        let g = first_field f in
        let e = sym (first_is line at h 32 first) ∙ g.is in
        let tails : drop (at + 1) line ≡ g.spelling ++ g.rest = cc in
        let r = same_spelling b.spells g.spells b.stops (fields_stop g.others) (sym b.is ∙ tails) in
        rw r.1 g.others;
  }
  after_space None h first none = λ y ys f.
      let g = first_field f in
      let e = sym (first_is line at h 32 first) ∙ g.is in
      none y g.rest (record { spelling = g.spelling; spells = g.spells; stops = fields_stop g.others; is = cc })
