-- Laws of `part` and `put`, for lists of any type: lengths, elements, parts of parts, and parts that are lent.
use Rattle.std.specs.Prelude.{◌≡◌, set}
use Rattle.std.proofs.Math.Path.{ap, sym}
use Rattle.std.proofs.Common.{◌∙◌, mul-le-mul_left, mul-suc, length-append, drop_of_length-le, take_at, drop_at, take-take, drop-set-lt}
use mathlib.Core.List.{List, [], ◌∷◌, ◌++◌, append_assoc, append-nil}
use Prim.Native.Nat.{ℕ, zero, suc, ◌+◌, ◌*◌, ◌-◌, ◌<◌, ◌≤◌}
use Rattle.std.proofs.Math.Decide.{dec_lt}
use Rattle.std.proofs.Math.Nat.{add-sub_cancel_left}
use Rattle.std.proofs.Math.Numerals.{add-one, add-two, add-three, unary_clauses}
use native.Mathlib.Omega.{arith}
use borrow.Rule.Slice.PartMut.{put_mid}
use Rattle.std.proofs.Math.ListN.{length, get_or, take, drop, length-take, length-drop, get_or-append, take-append-drop}
use Rattle.std.proofs.Math.Seq.{get_or-take, get_or-drop, get_or-append-add, take-add, take-nil, take_all, drop-drop, drop-cons, take-append-le, drop-append-add, sets-eq}
use Rattle.std.proofs.lemmas.List.{drop-append-le, set_split}
use Rattle.std.proofs.lemmas.List.Edits.{sets}
use Rattle.words.specs.Parts.{part, put}

module _ {A : Type 0} where
  -- ---- lengths
  pub length_part : (w : List A) (a k : ℕ) → a + k ≤ length w → length (part w a k) ≡ k
  unfolding part
  length_part w a k fits = simp (length-take, length-drop) (omega arith)

  length_fore : (w : List A) (a : ℕ) → a ≤ length w → length (take a w) ≡ a
  length_fore w a fits = simp length-take (omega arith)

  length_head : (w : List A) (a k : ℕ) (p : List A) → a ≤ length w → length p ≡ k → length (take a w ++ p) ≡ a + k
  length_head w a k p fits long = simp (length-append, length-take) (omega arith)

  pub length-put : (w : List A) (a k : ℕ) (p : List A) → a + k ≤ length w → length p ≡ k → length (put w a k p) ≡ length w
  unfolding put
  length-put w a k p fits long = simp (length-append, length-take, length-drop) (omega arith)

  -- ---- single elements
  pub get_or_part : (w : List A) (a k j : ℕ) (d : A) → j < k → get_or (part w a k) j d ≡ get_or w (a + j) d
  unfolding part
  get_or_part w a k j d h = rw (get_or-take, get_or-drop)

  pub get_or_put_below : (w : List A) (a k : ℕ) (p : List A) (j : ℕ) (d : A) → a + k ≤ length w → j < a → get_or (put w a k p) j d ≡ get_or w j d
  unfolding put
  get_or_put_below w a k p j d fits h =
      get_or-append (take a w) (p ++ drop k (drop a w)) d j (omega (arith, length_fore w a (omega arith))) ∙ get_or-take a w j d h

  pub get_or_put_above : (w : List A) (a k : ℕ) (p : List A) (j : ℕ) (d : A) → a + k ≤ length w → length p ≡ k → a + k ≤ j → get_or (put w a k p) j d ≡ get_or w j d
  unfolding put
  get_or_put_above w a k p j d fits long h =
      let fore = length_fore w a (omega arith) in
      let at : j ≡ length (take a w) + (length p + (j - (a + k))) = omega arith in
      let back : a + (k + (j - (a + k))) ≡ j = omega arith in
      rw at (rw (get_or-append-add (take a w), get_or-append-add p, get_or-drop, get_or-drop) (ap (λ (n : ℕ). get_or w n d) (back ∙ at)))

  -- ---- a part of what was put, and what is put in the place of a part
  pub put-part : (w : List A) (a k : ℕ) → put w a k (part w a k) ≡ w
  unfolding part put
  put-part w a k = rw (take-append-drop k (drop a w)) (take-append-drop a w)

  pub part-put : (w : List A) (a k : ℕ) (p : List A) → a + k ≤ length w → length p ≡ k → part (put w a k p) a k ≡ p
  unfolding part put
  part-put w a k p fits long =
      rw (drop_at (take a w) (p ++ drop k (drop a w)) a (length_fore w a (omega arith))) (take_at p (drop k (drop a w)) k long)

  -- ---- a part of a list in two halves
  part_front : (f x : List A) (b m : ℕ) → b + m ≤ length f → part (f ++ x) b m ≡ part f b m
  unfolding part
  part_front f x b m h =
      let h₁ : b ≤ length f = omega arith in
      let h₂ : m ≤ length (drop b f) = omega (arith, length-drop b f) in
      rw (drop-append-le b f x, take-append-le m (drop b f) x)

  drop_behind : (f x : List A) (n b : ℕ) → length f ≡ n → n ≤ b → drop b (f ++ x) ≡ drop (b - n) x
  drop_behind f x n b e h =
      let at : b ≡ length f + (b - n) = omega arith in
      ap (λ (j : ℕ). drop j (f ++ x)) at ∙ drop-append-add f x (b - n)

  -- ---- a part that lies apart from what was put is as it was, also where it reaches past the end
  pub part_put_below : (w : List A) (a k : ℕ) (p : List A) (b m : ℕ) → a + k ≤ length w → b + m ≤ a → part (put w a k p) b m ≡ part w b m
  unfolding put
  part_put_below w a k p b m fits h =
      let below : b + m ≤ length (take a w) = omega (arith, length_fore w a (omega arith)) in
      part_front (take a w) (p ++ drop k (drop a w)) b m below
      ∙ sym (part_front (take a w) (drop a w) b m below)
      ∙ ap (λ (l : List A). part l b m) (take-append-drop a w)

  pub drop_put_above : (w : List A) (a k : ℕ) (p : List A) (b : ℕ) → a + k ≤ length w → length p ≡ k → a + k ≤ b → drop b (put w a k p) ≡ drop b w
  unfolding put
  drop_put_above w a k p b fits long h =
      behind p long ∙ sym (behind (part w a k) (length_part w a k fits)) ∙ ap (drop b) (put-part w a k)
    where
      behind : (q : List A) → length q ≡ k → drop b (put w a k q) ≡ drop (b - (a + k)) (drop k (drop a w))
      behind q e =
          let both = length_head w a k q (omega arith) e in
          rw (← append_assoc (take a w) q (drop k (drop a w))) (drop_behind (take a w ++ q) (drop k (drop a w)) (a + k) b both h)

  pub part_put_above : (w : List A) (a k : ℕ) (p : List A) (b m : ℕ) → a + k ≤ length w → length p ≡ k → a + k ≤ b → part (put w a k p) b m ≡ part w b m
  unfolding part
  part_put_above w a k p b m fits long h = ap (take m) (drop_put_above w a k p b fits long h)

  -- ---- records of one size, side by side from `base` on: one that is put leaves each other as it was
  pub record_other : (w : List A) (base size i : ℕ) (p : List A) (j : ℕ) → base + size * i + size ≤ length w → length p ≡ size → (j ≡ i → ⊥)
      → part (put w (base + size * i) size p) (base + size * j) size ≡ part w (base + size * j) size
  record_other w base size i p j fits long ne = by (dec_lt j i)
    where
      -- a record ends no later than a higher one starts
      ends : (m n : ℕ) → m < n → base + size * m + size ≤ base + size * n
      ends m n h = omega (arith, mul-le-mul_left size h, mul-suc size m)

      by : Dec (j < i) → part (put w (base + size * i) size p) (base + size * j) size ≡ part w (base + size * j) size
      by (yes below) = part_put_below w (base + size * i) size p (base + size * j) size fits (ends j i below)
      by (no not-below) = part_put_above w (base + size * i) size p (base + size * j) size fits long (ends i j (omega arith))

  -- ---- a part of a part
  drop-take : (b k : ℕ) (l : List A) → drop b (take k l) ≡ take (k - b) (drop b l)
  drop-take zero k l = simp unary_clauses
  drop-take (suc b) zero l = let none : 0 - suc b ≡ 0 = omega arith in rw none
  drop-take (suc b) (suc k) [] = simp (unary_clauses, take-nil)
  drop-take (suc b) (suc k) (x ∷ l) = simp unary_clauses (drop-take b k l)

  pub part-part : (w : List A) (a k b m : ℕ) → b + m ≤ k → part (part w a k) b m ≡ part w (a + b) m
  unfolding part
  part-part w a k b m h =
      let h' : m ≤ k - b = omega arith in
      rw (drop-take b k (drop a w), drop-drop b a w) (take-take m (k - b) (drop (a + b) w) h')

  pub part_of_put : (w : List A) (a k : ℕ) (p : List A) (b m : ℕ) → a + k ≤ length w → length p ≡ k → b + m ≤ k → part (put w a k p) (a + b) m ≡ part p b m
  part_of_put w a k p b m fits long h = sym (part-part (put w a k p) a k b m h) ∙ rw (part-put w a k p fits long)

  -- ---- one store
  pub part_set_below : (w : List A) (j : ℕ) (v : A) (a k : ℕ) → j < a → part (set w j v) a k ≡ part w a k
  unfolding part
  part_set_below w j v a k h = rw (drop-set-lt a w j v)

  -- ---- a put grows by what is put beside it
  pub put_none : (w : List A) (a : ℕ) → put w a 0 [] ≡ w
  unfolding put
  put_none w a = take-append-drop a w

  -- the part that is all, and what is put in its place
  pub part_whole : (w : List A) (k : ℕ) → length w ≡ k → part w 0 k ≡ w
  unfolding part
  part_whole w k long = take_all k w (omega arith)

  pub put_whole : (w : List A) (p : List A) (k : ℕ) → length w ≡ k → put w 0 k p ≡ p
  unfolding put
  put_whole w p k long = rw (drop_of_length-le w {i = k} (omega arith)) (append-nil p)

  pub put_beside : (w : List A) (a k : ℕ) (p : List A) (m : ℕ) (q : List A) → a + k ≤ length w → length p ≡ k → put (put w a k p) (a + k) m q ≡ put w a (k + m) (p ++ q)
  unfolding put
  put_beside w a k p m q fits long = rw (fore, aft, drop-drop m k (drop a w)) (simp append_assoc)
    where
      rest : List A
      rest = drop k (drop a w)

      both : length (take a w ++ p) ≡ a + k
      both = length_head w a k p (omega arith) long

      fore : take (a + k) (take a w ++ (p ++ rest)) ≡ take a w ++ p
      fore = ap (take (a + k)) (sym (append_assoc (take a w) p rest)) ∙ take_at (take a w ++ p) rest (a + k) both

      aft : drop (a + k) (take a w ++ (p ++ rest)) ≡ rest
      aft = ap (drop (a + k)) (sym (append_assoc (take a w) p rest)) ∙ drop_at (take a w ++ p) rest (a + k) both

  pub set_is_put : (w : List A) (a : ℕ) (v : A) → a < length w → set w a v ≡ put w a 1 (v ∷ [])
  unfolding put
  set_is_put w a v h = rw (drop-drop 1 a w, add-one a) (set_split w a v h)

  pub put_next : (w : List A) (a k : ℕ) (p : List A) (v : A) → a + k < length w → length p ≡ k → set (put w a k p) (a + k) v ≡ put w a (k + 1) (p ++ (v ∷ []))
  put_next w a k p v h long =
      let fits : a + k ≤ length w = omega arith in
      let inside : a + k < length (put w a k p) = omega (arith, length-put w a k p fits long) in
      set_is_put (put w a k p) (a + k) v inside ∙ put_beside w a k p 1 (v ∷ []) fits long

  pub part_add : (w : List A) (a k m : ℕ) → part w a (k + m) ≡ part w a k ++ part w (a + k) m
  unfolding part
  part_add w a k m = take-add k m (drop a w) ∙ ap (λ (l : List A). take k (drop a w) ++ take m l) (drop-drop k a w)

  pub part_one : (w : List A) (a : ℕ) (d : A) → a < length w → part w a 1 ≡ get_or w a d ∷ []
  unfolding part
  part_one w a d h = rw (drop-cons w a d)

  pub part_next : (w : List A) (a k : ℕ) (d : A) → a + k < length w → part w a (k + 1) ≡ part w a k ++ (get_or w (a + k) d ∷ [])
  part_next w a k d h = part_add w a k 1 ∙ ap (λ (l : List A). part w a k ++ l) (part_one w (a + k) d h)

  -- four elements one after the other
  pub part_four : (w : List A) (a : ℕ) (d : A) → a + 4 ≤ length w → get_or w a d ∷ get_or w (a + 1) d ∷ get_or w (a + 2) d ∷ get_or w (a + 3) d ∷ [] ≡ part w a 4
  unfolding part
  part_four w a d fits =
      let h₀ : a < length w = omega arith in
      let h₁ : suc a < length w = omega arith in
      let h₂ : suc (suc a) < length w = omega arith in
      let h₃ : suc (suc (suc a)) < length w = omega arith in
      rw (add-one, add-two, add-three, drop-cons w a d, drop-cons w (suc a) d, drop-cons w (suc (suc a)) d, drop-cons w (suc (suc (suc a))) d)

  -- stores one after the other
  pub sets_put : (w : List A) (a : ℕ) (p : List A) → a + length p ≤ length w → sets w a p ≡ put w a (length p) p
  unfolding put
  sets_put w a p fits = sets-eq p w a fits ∙ simp (append_assoc, drop-drop)

  -- ---- a lent part: what the code says of `&mut w[a..a + k]` while it is lent, and of the whole when it is back
  pub lent-part : (w : List A) (a k : ℕ) → take (a + k - a) (drop a w) ≡ part w a k
  unfolding part
  lent-part w a k = rw (add-sub_cancel_left a k)

  pub lent_back : (w : List A) (a k : ℕ) (p : List A) → put_mid a (a + k - a) w p ≡ put w a k p
  unfolding put
  lent_back w a k p = rw (add-sub_cancel_left a k)
