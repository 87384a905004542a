-- An answer has one line; a row of identifiers grows by one; and a line is put together from runs of bytes written one after the other.
use Rattle.std.specs.Prelude.{◌≡◌, refl, List, [], ◌∷◌, ◌++◌, ℕ, ℤ, length}
use Rattle.std.proofs.Common.{sym, ap, ◌∙◌, append_assoc, append-nil}
use Rattle.words.specs.Words.{nat_of}
use Rattle.decimal.specs.Decimal.{Decimal}
use Rattle.decimal.specs.Inner.PutBytes.{Put, TheseBytes}
use Rattle.decimal.specs.Laws.Decimal.{same_decimal}
use Rattle.decimal.specs.Laws.PutBytes.{put_then}
use Rattle.desk_answers.specs.AnswerLines.{Spaced, none, and_number, NoLine, HitsLine, no_word, hits_word}

-- ---- one line
pub same_spaced : {zs : List ℤ} {s t : List ℕ} → Spaced zs s → Spaced zs t → s ≡ t
same_spaced none none = refl
same_spaced (and_number d g) (and_number c h) =
    let first = same_decimal d c refl in
    let others = same_spaced g h in
    cc

pub one_no : {z : ℤ} {s t : List ℕ} → NoLine z s → NoLine z t → s ≡ t
one_no g h = g.is ∙ ap (λ (d : List ℕ). no_word ++ (d ++ 10 ∷ [])) (same_decimal g.decimal h.decimal refl) ∙ sym h.is

pub one_hits : {zs : List ℤ} {s t : List ℕ} → HitsLine zs s → HitsLine zs t → s ≡ t
one_hits g h =
    let count = same_decimal g.counted h.counted refl in
    let fields = same_spaced g.spaced h.spaced in
    g.is ∙ rw (count, fields) (sym h.is)

-- an identifier more
pub one_id_more : {zs : List ℤ} (z : ℤ) {s d : List ℕ} → Spaced zs s → Decimal (nat_of z) d → Spaced (zs ++ z ∷ []) (s ++ 32 ∷ d)
one_id_more z {d} none g = rw (append-nil d) at (and_number {z = z} g none)
one_id_more z {d} (and_number {z = y} {d = c} {s} h l) g = rw (← append_assoc c s (32 ∷ d)) at (and_number {z = y} h (one_id_more z l g))

-- ---- put together
-- such bytes, and the line feed
abbrev Ended : (List ℕ → Type 0) → List ℕ → Type 0
Ended P s = (a : List ℕ) × P a × (s ≡ a ++ 10 ∷ [])

ended : {P : List ℕ → Type 0} (a b : List ℕ) → P a → b ≡ 10 ∷ [] → Ended P (a ++ b)
ended a b p e = (a, p, rw e)

module _ {before v u last : List ℕ} {a e r : ℕ} where
  pub no_line : {z : ℤ} {n : ℕ} → n ≡ nat_of z → Put (TheseBytes no_word) before 0 v a → Put (Decimal n) v a u e → Put (TheseBytes (10 ∷ [])) u e last r → Put (NoLine z) before 0 last r
  no_line {z} {n} same word digits feed =
      let rest : Put (Ended (Decimal n)) v a last r = put_then digits feed ended in
      let all : (x y : List ℕ) → x ≡ no_word → Ended (Decimal n) y → NoLine z (x ++ y) = λ x y f g. record { digits = g.0; decimal = rw same at g.1; is = rw (f, g.2) } in
      put_then word rest all

  pub hits_line : {ids : List ℤ} {n f : ℕ} {t : List ℕ} → n ≡ length ids → Put (TheseBytes hits_word) before 0 t f → Put (Decimal n) t f v a → Put (Spaced ids) v a u e → Put (TheseBytes (10 ∷ [])) u e last r
      → Put (HitsLine ids) before 0 last r
  hits_line {ids} {n} {f} {t} same word count list feed =
      let spaced : Put (Ended (Spaced ids)) v a last r = put_then list feed ended in
      let Rest : List ℕ → Type 0 = λ s. (x : List ℕ) × (y : List ℕ) × Decimal n x × Spaced ids y × (s ≡ x ++ (y ++ 10 ∷ [])) in
      let rest : Put Rest t f last r = put_then count spaced (λ x y d g. (x, g.0, d, g.1, rw g.2)) in
      let all : (x y : List ℕ) → x ≡ hits_word → Rest y → HitsLine ids (x ++ y) = λ x y h g. record { count = g.0; fields = g.1; counted = rw same at g.2; spaced = g.3; is = rw (h, g.4) } in
      put_then word rest all
