-- Pieces of one size, put into a list one after the other: how long they are, and what one piece more makes of the list.
use Rattle.std.specs.Prelude.{◌≡◌, refl, List, [], ◌∷◌, ◌++◌, ℕ, suc, ◌+◌, ◌*◌, ◌≤◌, length}
use Rattle.std.proofs.Common.{sym, ap, ◌∙◌, append_assoc, append-nil, mul-suc, mul-zero, arith, length-append}
use Rattle.words.specs.Parts.{put}
use Rattle.words.specs.Laws.Parts.{length-put, put_none, put_beside}
use Rattle.words.specs.Inner.InLine.{Pieces, PutInLine}

module _ {A B : Type 0} {piece : A → List B} {size : ℕ} {all : List A → List B} (p : Pieces piece size all) where
  pub length_pieces : (l : List A) → length (all l) ≡ size * length l
  length_pieces [] = ap length p.none ∙ sym (mul-zero size)
  length_pieces (x ∷ l) =
      ap length (p.more x l) ∙ length-append (piece x) (all l) ∙ omega (arith, p.size_is x, length_pieces l, mul-suc size (length l))

  one_behind : (l : List A) (x : A) → all (l ++ (x ∷ [])) ≡ all l ++ piece x
  one_behind [] x = p.more x [] ∙ rw p.none (append-nil (piece x))
  one_behind (y ∷ l) x = p.more y (l ++ (x ∷ [])) ∙ rw (one_behind l x, p.more y l) (sym (append_assoc (piece y) (all l) (piece x)))

  pub none_in_line : (w : List B) (at : ℕ) → PutInLine all size w at [] w
  none_in_line w at = record { is = rw (mul-zero size, p.none) (sym (put_none w at)); long = refl }

  pub one_in_line : {w t u : List B} {at : ℕ} {l : List A} (x : A) → PutInLine all size w at l t → at + size * suc (length l) ≤ length w
      → u ≡ put t (at + size * length l) size (piece x) → PutInLine all size w at (l ++ (x ∷ [])) u
  one_in_line {w} {t} {u} {at} {l} x so_far fits e = record {
    is = e ∙ rw (so_far.is, many, one_behind l x) (put_beside w at (size * length l) (all l) size (piece x) before (length_pieces l));
    long = ap length e ∙ length-put t (at + size * length l) size (piece x) (omega (arith, so_far.long, fits, more)) (p.size_is x) ∙ so_far.long;
  }
    where
      more : size * suc (length l) ≡ size * length l + size
      more = omega (arith, mul-suc size (length l))

      before : at + size * length l ≤ length w
      before = omega (arith, fits, more)

      many : size * length (l ++ (x ∷ [])) ≡ size * length l + size
      many = let n : length (l ++ (x ∷ [])) ≡ suc (length l) = simp length-append (omega arith) in rw n more
