-- What was put into the buffer: a whole line from its first byte on, and a list, number by number.
use Rattle.std.specs.Prelude.{◌≡◌, refl, List, [], ◌∷◌, ◌++◌, ℕ, ◌+◌, ◌≤◌, ◌<◌, ℤ, pos, length, get_or, take, drop, set}
use Rattle.std.proofs.Common.{sym, ap, ◌∙◌, add-one, arith, take-suc}
use Rattle.words.specs.Parts.{put}
use Rattle.words.specs.Words.{nat_of}
use Rattle.decimal.specs.Decimal.{Decimal}
use Rattle.decimal.specs.Inner.PutBytes.{Put}
use Rattle.decimal.specs.Laws.PutBytes.{put_long, put_then, put_byte}
use Rattle.desk_answers.specs.AnswerLines.{Spaced, LineWritten, Spelt}
use Rattle.desk_answers.specs.Laws.AnswerLines.{one_id_more}

-- a whole line, from the buffer's first byte on
unfoldable pub line_written : {P : List ℕ → Type 0} {before after : List ℕ} {r : ℕ} → Put P before 0 after r → LineWritten P before after r
unfolding put
line_written {before} p =
    let long : _ ≡ length p.bytes = p.end ∙ omega arith in
    record { line = p.bytes; spelt = p.spelt; long = long; fits = p.fits; is = p.is ∙ ap (λ (k : ℕ). p.bytes ++ drop k before) (sym long) }

pub spelt_whole : {P : List ℕ → Type 0} {before after : List ℕ} {r : ℕ} (room : ℕ) → room ≤ length before → Put P before 0 after r → Spelt room P before after r
spelt_whole room h p = record { refused = λ short. absurd (omega arith); written = λ enough. line_written p }

pub spelt_not : {P : List ℕ → Type 0} {before : List ℕ} (room : ℕ) → length before < room → Spelt room P before before 0
spelt_not room h = record { refused = λ short. (refl, refl); written = λ enough. absurd (omega arith) }

-- ---- a list, number by number
abbrev Field : ℤ → List ℕ → Type 0
Field z s = (d : List ℕ) × Decimal (nat_of z) d × (s ≡ 32 ∷ d)

module _ (list : List ℤ) (k : ℕ) {before out : List ℕ} {at end : ℕ} (p : Put (Spaced (take k list)) before at out end) where
  pub list_next : {last : List ℕ} {n r : ℕ} → k < length list → end < length before → n ≡ nat_of (get_or list k (pos 0)) → Put (Decimal n) (set out end 32) (end + 1) last r
      → Put (Spaced (take (k + 1) list)) before at last r
  list_next {last} {n} {r} h room e q =
      let z = get_or list k (pos 0) in
      let inside : end < length out = omega (arith, put_long p) in
      let spaced : (a b : List ℕ) → a ≡ 32 ∷ [] → Decimal n b → Field z (a ++ b) = λ a b f g. (b, rw e at g, rw f) in
      let longer : (a b : List ℕ) → Spaced (take k list) a → Field z b → Spaced (take (k + 1) list) (a ++ b) = λ a b l f. rw (add-one, take-suc list k (pos 0) h, f.2) (one_id_more z l f.1) in
      put_then p (put_then (put_byte 32 inside) q spaced) longer

  pub list_all : (count : ℕ) → k ≤ count → count ≤ k → Put (Spaced (take count list)) before at out end
  list_all count upto all = let e : k ≡ count = omega arith in rw e at p
