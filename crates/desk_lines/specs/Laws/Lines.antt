-- Bytes cut into lines: one byte more, pieces put together, and that there is one way to cut them.
use Rattle.std.specs.Prelude.{◌≡◌, refl, List, [], ◌∷◌, ◌++◌, ℕ}
use Rattle.std.proofs.Common.{sym, ap, ◌∙◌, ⊎_elim, append_assoc}
use mathlib.Core.List.Memᴰ
use Rattle.whole.specs.Lists.{◌∈◌}
use Rattle.desk_lines.specs.Lines.{line_feed, joined, NoFeed, CutInto}

-- ---- joined lines
joined_then : (ls ms : List (List ℕ)) (r : List ℕ) → joined (ls ++ ms) r ≡ joined ls (joined ms r)
joined_then [] ms r = refl
joined_then (l ∷ ls) ms r = ap (λ (s : List ℕ). l ++ line_feed ∷ s) (joined_then ls ms r)

joined_more : (ls : List (List ℕ)) (r q : List ℕ) → joined ls (r ++ q) ≡ joined ls r ++ q
joined_more [] r q = refl
joined_more (l ∷ ls) r q = ap (λ (s : List ℕ). l ++ line_feed ∷ s) (joined_more ls r q) ∙ sym (append_assoc l (line_feed ∷ joined ls r) q)

-- ---- pieces: the rest of the first goes before the second
pub cut_then : (q : List ℕ) {p : List ℕ} {ls ms : List (List ℕ)} {r s : List ℕ} → CutInto p ls r → CutInto (r ++ q) ms s → CutInto (p ++ q) (ls ++ ms) s
cut_then q {p} {ls} {ms} {r} {s} a b = record {
  is = ap (λ (x : List ℕ). x ++ q) a.is ∙ sym (joined_more ls r q) ∙ ap (joined ls) b.is ∙ sym (joined_then ls ms s);
  clean = λ line m. ⊎_elim (λ n. a.clean line n) (λ n. b.clean line n) (Memᴰ.append_cases ls m);
  clean_rest = b.clean_rest;
}

-- ---- one byte more
pub cut_rest : {r : List ℕ} → NoFeed r → CutInto r [] r
cut_rest h = record { is = refl; clean = λ line m. absurd (Memᴰ.not-nil m); clean_rest = h }

no_feed_none : NoFeed []
no_feed_none m = Memᴰ.not-nil m

no_feed_more : {r : List ℕ} {b : ℕ} → NoFeed r → (b ≡ line_feed → ⊥) → NoFeed (r ++ b ∷ [])
no_feed_more {r} {b} h other m = ⊎_elim h (λ n. other (sym (Memᴰ.eq_of_singleton n))) (Memᴰ.append_cases r m)

pub cut_byte : {p : List ℕ} {ls : List (List ℕ)} {r : List ℕ} {b : ℕ} → (b ≡ line_feed → ⊥) → CutInto p ls r → CutInto (p ++ b ∷ []) ls (r ++ b ∷ [])
cut_byte {p} {ls} {r} {b} other a = record {
  is = ap (λ (x : List ℕ). x ++ b ∷ []) a.is ∙ sym (joined_more ls r (b ∷ []));
  clean = a.clean;
  clean_rest = no_feed_more a.clean_rest other;
}

pub cut_feed : {p : List ℕ} {ls : List (List ℕ)} {r : List ℕ} {b : ℕ} → b ≡ line_feed → CutInto p ls r → CutInto (p ++ b ∷ []) (ls ++ r ∷ []) []
cut_feed {b} e a = cut_then (b ∷ []) a (rw e (one_line a.clean_rest))
  where
    one_line : {r : List ℕ} → NoFeed r → CutInto (r ++ line_feed ∷ []) (r ∷ []) []
    one_line {r} h = record { is = refl; clean = λ line m. rw (Memᴰ.eq_of_singleton m) h; clean_rest = no_feed_none }

-- ---- bytes are cut in one way
line_cut_once : (l m : List ℕ) {x y : List ℕ} → NoFeed l → NoFeed m → l ++ line_feed ∷ x ≡ m ++ line_feed ∷ y → (l ≡ m) × (x ≡ y)
line_cut_once [] [] h k e = (refl, cc)
line_cut_once [] (b ∷ m) h k e = absurd (k (Memᴰ.head (cc)))
line_cut_once (a ∷ l) [] h k e = absurd (h (Memᴰ.head (cc)))
line_cut_once (a ∷ l) (b ∷ m) {x} {y} h k e =
    let tails : l ++ line_feed ∷ x ≡ m ++ line_feed ∷ y = cc in
    let r = line_cut_once l m (λ n. h (Memᴰ.tail n)) (λ n. k (Memᴰ.tail n)) tails in
    let front = r.0 in
    (cc, r.1)

feed_in : (l : List ℕ) (x : List ℕ) → line_feed ∈ (l ++ line_feed ∷ x)
feed_in [] x = Memᴰ.head refl
feed_in (b ∷ l) x = Memᴰ.tail (feed_in l x)

module _ {r s : List ℕ} (hr : NoFeed r) (hs : NoFeed s) where
  same_parts : (ls ms : List (List ℕ)) → ((l : List ℕ) → l ∈ ls → NoFeed l) → ((m : List ℕ) → m ∈ ms → NoFeed m) → joined ls r ≡ joined ms s → (ls ≡ ms) × (r ≡ s)
  same_parts [] [] h k e = (refl, e)
  same_parts [] (m ∷ ms) h k e = absurd (hr (rw e (feed_in m (joined ms s))))
  same_parts (l ∷ ls) [] h k e = absurd (hs (rw (← e) (feed_in l (joined ls r))))
  same_parts (l ∷ ls) (m ∷ ms) h k e =
      let first = line_cut_once l m (h l (Memᴰ.head refl)) (k m (Memᴰ.head refl)) e in
      let others = same_parts ls ms (λ x n. h x (Memᴰ.tail n)) (λ x n. k x (Memᴰ.tail n)) first.1 in
      let front = first.0 in
      let back = others.0 in
      (cc, others.1)

pub cut_once : {p : List ℕ} {ls ms : List (List ℕ)} {r s : List ℕ} → CutInto p ls r → CutInto p ms s → (ls ≡ ms) × (r ≡ s)
cut_once {ls} {ms} a b = same_parts a.clean_rest b.clean_rest ls ms a.clean b.clean (sym a.is ∙ b.is)
