-- A line has at most one form, with one list of numbers; and what reading answers, by each way through the code.
use Rattle.std.specs.Prelude.{◌≡◌, refl, cond, Option, Some, None, List, [], ◌∷◌, ◌++◌, ℕ, zero, suc, ◌+◌, ◌≤◌, eqb, ℤ, pos, length, get_or, drop}
use Rattle.std.proofs.Common.{sym, ap, ◌∙◌, add-one, arith, drop_of_length-le, drop-cons}
use Rattle.std.proofs.Math.Seq.{drop-append_seam}
use Rattle.desk_lines.specs.Forms.{Fields, Form, IsForm, cell, drop as dropped, when, move, ReadsLine, cell_word, drop_word, when_word, move_word}
use Rattle.desk_lines.specs.Inner.FieldsRead.{FieldsRead, FormRead}
use Rattle.desk_lines.specs.Inner.Numbered.{nth, report_of, drop_of, window_of, moving_of}
use Rattle.desk_lines.specs.Laws.Fields.{same_fields}
use Rattle.desk_lines.specs.declared.Line.{Line}
use Rattle.desk_lines.specs.declared.Line.TheVariants.{Cell, Drop, When, Move}

-- ---- a form from its first letter and its numbers
abbrev line_of : ℕ → List ℤ → Option Line
line_of c zs =
    cond (eqb c 99) (Some (Cell (report_of zs)))
    (cond (eqb c 100) (Some (Drop (drop_of zs)))
    (cond (eqb c 119) (Some (When (window_of zs)))
    (cond (eqb c 109) (Some (Move (moving_of zs))) None)))

module _ (line : List ℕ) where
  -- the line's first letter and the numbers behind its word make the form
  record MadeOf (f : Line) : Type 0 where
    pub numbers : List ℤ
    pub makes : line_of (get_or line 0 0) numbers ≡ Some f
    pub fields : Fields numbers (drop 4 line)

  made_by : {f : Line} (a b c d : ℕ) {zs : List ℤ} → Form (a ∷ b ∷ c ∷ d ∷ []) zs line → line_of a zs ≡ Some f → MadeOf f
  made_by a b c d {zs} p e = record {
    numbers = zs;
    makes = ap (λ (l : List ℕ). line_of (get_or l 0 0) zs) p.is ∙ e;
    fields = rw p.is p.fields;
  }

  made : {f : Line} → IsForm f line → MadeOf f
  made (cell p) = made_by 99 101 108 108 p refl
  made (dropped p) = made_by 100 114 111 112 p refl
  made (when p) = made_by 119 104 101 110 p refl
  made (move p) = made_by 109 111 118 101 p refl

  -- the definition is unambiguous
  pub same_form : {f g : Line} → IsForm f line → IsForm g line → f ≡ g
  same_form p q =
      let a = made p in
      let b = made q in
      let same : Some _ ≡ Some _ = sym a.makes ∙ ap (line_of (get_or line 0 0)) (same_fields a.fields b.fields refl) ∙ b.makes in
      cc

  -- ---- what reading answers
  pub reads_form : {f : Line} → IsForm f line → ReadsLine line (Some f)
  reads_form {f} p = record {
    right = λ g e. let same : f ≡ g = cc in rw same at p;
    only = λ g q. ap (λ (l : Line). Some l) (same_form p q);
  }

  -- the line is no such word with k fields
  abbrev Not : List ℕ → ℕ → Type 0
  Not word k = (zs : List ℤ) → length zs ≡ k → Form word zs line → ⊥

  pub reads_bad : Not cell_word 7 → Not drop_word 2 → Not when_word 6 → Not move_word 10 → ReadsLine line None
  reads_bad no_cell_left no_drop no-when no_move = record { right = λ f e. absurd (cc); only = λ f p. absurd (none p) }
    where
      none : {f : Line} → IsForm f line → ⊥
      none (cell p) = no_cell_left _ refl p
      none (dropped p) = no_drop _ refl p
      none (when p) = no-when _ refl p
      none (move p) = no_move _ refl p

-- the k numbers from i on, one by one
abbrev numbers_from : List ℤ → ℕ → ℕ → List ℤ
numbers_from zs i zero = []
numbers_from zs i (suc k) = nth zs i ∷ numbers_from zs (i + 1) k

listed_is : (zs : List ℤ) (k i : ℕ) → length zs ≡ i + k → drop i zs ≡ numbers_from zs i k
listed_is zs zero i e = let end : length zs ≤ i = omega arith in drop_of_length-le zs end
listed_is zs (suc k) i e =
    let more : suc i ≤ length zs = omega arith in
    drop-cons zs i (pos 0) more ∙ rw (← add-one i) (ap (λ (l : List ℤ). nth zs i ∷ l) (listed_is zs k (i + 1) (omega arith)))

-- ---- a form was looked for: it is there with k numbers, or it is not
module _ {word line : List ℕ} (k : ℕ) where
  pub form_there : {zs : List ℤ} → FormRead word k line (Some zs) → Form word (numbers_from zs 0 k) line
  form_there {zs} (many, p) = rw (listed_is zs k 0 (many ∙ omega arith)) at p

  pub form_missing : FormRead word k line None → Not line word k
  form_missing none = none

-- ---- looking for a form: the word first, and then its fields
pub no_word : (word line : List ℕ) (k : ℕ) → ((rest : List ℕ) → line ≡ word ++ rest → ⊥) → FormRead word k line None
no_word word line k other = λ zs e p. other p.rest p.is

pub word_and_fields : (word : List ℕ) {line : List ℕ} (rest : List ℕ) (k : ℕ) (r : Option (List ℤ)) → line ≡ word ++ rest → FieldsRead rest k r → FormRead word k line r
word_and_fields word rest k (Some zs) here (many, fields) = (many, record { rest = rest; is = here; fields = fields })
word_and_fields word rest k None here none = λ zs e p.
    let same : p.rest ≡ rest = sym (drop-append_seam word p.rest) ∙ ap (drop (length word)) (sym p.is ∙ here) ∙ drop-append_seam word rest in
    none zs e (rw same at p.fields)
