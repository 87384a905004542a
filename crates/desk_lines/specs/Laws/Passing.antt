-- What holds along a line: letter by letter of a word that it begins with, and at each turn of the pass over its fields.
use Rattle.std.specs.Prelude.{◌≡◌, refl, Bool, true, false, List, [], ◌∷◌, ◌++◌, ℕ, ◌+◌, ◌≤◌, ◌<◌, T, ℤ, pos, None, length, get_or, take, drop, set}
use Rattle.std.proofs.Common.{ap, ◌∙◌, append_assoc, append-nil, add-one, arith, length-set, length-append, length-drop, drop_of_length-le, drop-cons, take-suc, take-suc-set, take_all}
use Rattle.std.specs.Bool.{then_some}
use Rattle.std.proofs.Math.ListN.{get_or-append}
use Rattle.desk_lines.specs.Forms.{Fields, no_field}
use Rattle.desk_lines.specs.Laws.Fields.{fields_nil}
use Rattle.desk_lines.specs.Inner.FieldsRead.{FieldAt, FieldRead, FieldsRead}

-- ---- a word
module _ (line word : List ℕ) where
  -- the first i letters are the word's
  pub record SameLetters (i : ℕ) : Type 0 where
    pub upto : i ≤ length word
    pub is : line ≡ take i word ++ drop i line

  pub alike_none : SameLetters 0
  alike_none = record { upto = omega arith; is = refl }

  pub alike_next : (i : ℕ) → i < length word → i < length line → get_or line i 0 ≡ get_or word i 0 → SameLetters i → SameLetters (i + 1)
  alike_next i h k e a = record {
    upto = omega arith;
    is = a.is ∙ rw (add-one, take-suc word i 0 h, append_assoc, drop-cons line i 0 k, e);
  }

  pub alike_all : (i : ℕ) → length word ≤ i → SameLetters i → line ≡ word ++ drop (length word) line
  alike_all i h a =
      let e : i ≡ length word = omega (arith, a.upto) in
      rw (e, take_all (length word) word (omega arith)) at a.is

  pub unlike : (i : ℕ) → i < length word → (get_or line i 0 ≡ get_or word i 0 → ⊥) → line ≡ word ++ drop (length word) line → ⊥
  unlike i h other e = other (ap (λ (l : List ℕ). get_or l i 0) e ∙ get_or-append word (drop (length word) line) 0 i h)

  pub shorter : length line < length word → line ≡ word ++ drop (length word) line → ⊥
  shorter h e = omega (arith, ap length e, length-append word (drop (length word) line))

-- ---- fields
-- as many of a line's n fields as k are passed, and their numbers are the first of `out`; what is left stands at the cursor
pub record FieldsPassed (line : List ℕ) (n : ℕ) (out : List ℤ) (at k : ℕ) : Type 0 where
  pub upto : k ≤ n
  pub long : length out ≡ n
  pub inside : at ≤ length line
  pub more : (zs : List ℤ) → Fields zs (drop at line) → Fields (take k out ++ zs) line
  pub only : (zs : List ℤ) → length zs ≡ n → Fields zs line → Fields (drop k zs) (drop at line)

pub fields_passed_none : {line : List ℕ} {n : ℕ} {out : List ℤ} → length out ≡ n → FieldsPassed line n out 0 0
fields_passed_none e = record { upto = omega arith; long = e; inside = omega arith; more = λ zs f. f; only = λ zs e f. f }

module _ {line : List ℕ} {n : ℕ} {out : List ℤ} {at k : ℕ} (p : FieldsPassed line n out at k) where
  left : k < n → (zs : List ℤ) → length zs ≡ n → Fields zs line → Fields (get_or zs k (pos 0) ∷ drop (k + 1) zs) (drop at line)
  left h zs e f =
      let below : k < length zs = omega arith in
      rw (drop-cons zs k (pos 0) below, ← add-one) at (p.only zs e f)

  pub fields_passed_next : {z : ℤ} {next : ℕ} → k < n → FieldAt line at z next → FieldsPassed line n (set out k z) next (k + 1)
  fields_passed_next {z} h f = record {
    upto = omega arith;
    long = length-set out k z ∙ p.long;
    inside = f.inside;
    more = λ zs g.
        let below : k < length out = omega (arith, p.long) in
        rw (add-one, take-suc-set out k z below, append_assoc) (p.more (z ∷ zs) (f.more zs g));
    only = λ zs e g. f.only (get_or zs k (pos 0)) (drop (k + 1) zs) (left h zs e g);
  }

  -- a field is missing
  pub fields_passed_bad : k < n → FieldRead line at None → FieldsRead line n None
  fields_passed_bad h none = λ zs e f. none (get_or zs k (pos 0)) (drop (k + 1) zs) (left h zs e f)

  -- whether the line has no more than the fields
  pub fields_passed_all : (r : Bool) → n ≤ k → (T r → length line ≤ at) → (length line ≤ at → T r) → FieldsRead line n (then_some r out)
  fields_passed_all true h sure seen =
      let end : drop at line ≡ [] = drop_of_length-le line (sure tt) in
      let all : take k out ≡ out = take_all k out (omega (arith, p.long)) in
      (p.long, rw (all, append-nil) at (p.more [] (rw end no_field)))
  fields_passed_all false h sure seen = λ zs e f.
      let short : length zs ≤ k = omega arith in
      let end : drop k zs ≡ [] = drop_of_length-le zs short in
      let none = fields_nil (rw end at (p.only zs e f)) in
      absurd (seen (omega (arith, p.inside, ap length none, length-drop at line)))
