-- A chain over a node's entries by their places, `(0..n).map(..)`: what `max` makes of it is a pass over the entries.
use Rattle.std.proofs.Common.{◌≡◌, refl, sym, ap, ◌∙◌, ⊎_elim, Bool, true, false, cond, List, [], ◌∷◌, map, ℕ, zero, suc, ◌-◌, length, ℤ, pos, ◌≤ℤ◌, Option, Some, None, IsSomeAnd, slice_get, arith}
use mathlib.Core.List.Memᴰ
use Rattle.std.proofs.lemmas.List.{map-id}
use Rattle.std.proofs.lemmas.Simd.{map-map}
use Rattle.std.proofs.lemmas.List.FromFn.{fill_by_all}
use Rattle.std.specs.List.{range_with_len}
use Rattle.std.specs.Option.{MatchOption, unwrap_or}
use Rattle.std.specs.Ordering.{int_cmp, is_gt}
use Rattle.std.specs.declared.cmp.Ordering.TheVariants.{Less, Equal, Greater}
use Rattle.std.specs.Int.Signed.{lt_z}
use Rattle.std.specs.Iterator.Runs.{Run, AnyItem, AllItems}
use Rattle.std.proofs.iter.Yields.{nat_range_steps, Range-gives, gives_Drains}
use Rattle.std.proofs.iter.runs.Made.{took, at-is, each_of}
use Rattle.std.proofs.iter.runs.Lists.{Everywhere}
use Rattle.whole.specs.Lists.{◌∈◌}
use Rattle.whole.specs.Laws.Order.{≤ℤ_antisym, <ℤ→≤ℤ, lt_z_true, lt_z_false}
use Rattle.whole.specs.Laws.Tells.{true_not_false}
use Rattle.words.specs.Layout.{entry_at}
use Rattle.track.specs.Hull.{greater, picked}
use Rattle.track.specs.Laws.Hull.{greatest_above, greatest_in}
use Rattle.node.specs.Entry.{Entry, entry_count, entries_of}
use Rattle.node.specs.Inner.Pass.{pass_over}
use Rattle.node.specs.Laws.Entry.{length-entries_of, entry_is}

-- ---- the entries by their places
by_places : (node : List ℤ) → entries_of node ≡ map (entry_at node) (range_with_len 0 (entry_count node))
by_places node = fill_by_all (entry_at node) (entries_of node) (entry_count node) [] (length-entries_of node) (λ k low. entry_is node k low)

-- what a range gives up to its end
counted : (q : Run nat_range_steps) → q.whole ≡ true → q.items ≡ range_with_len q.from.start (q.from.end - q.from.start)
counted q whole =
    let t = took q in
    let end = t.2 whole in
    sym (map-id q.items)
    ∙ gives_Drains nat_range_steps (λ x. x) q.items (range_with_len q.from.start (q.from.end - q.from.start)) q.from (Range-gives q.from) (end.0, (t.0, t.1, end.1))

pub mapped : (value : Entry → ℤ) (node : List ℤ) (q : Run nat_range_steps) (items : List ℤ) → q.whole ≡ true → q.from.start ≡ 0 → q.from.end ≡ entry_count node
    → items ≡ map (λ k. value (entry_at node k)) q.items → items ≡ map value (entries_of node)
mapped value node q items whole start end is =
    let many : entry_count node - 0 ≡ entry_count node = omega arith in
    is ∙ rw (counted q whole, start, end, many, by_places node, map-map)

module _ (pick : ℤ → ℤ → ℤ) (value : Entry → ℤ) where
  none_left : (es : List Entry) → length (map value es) ≡ 0 → pos 0 ≡ pass_over pick value es
  unfolding pass_over
  none_left [] e = refl
  none_left (x ∷ es) e = absurd (omega arith)

  all_picked : (es : List Entry) (x : ℤ) (xs : List ℤ) → x ∷ xs ≡ map value es → picked pick x xs ≡ pass_over pick value es
  unfolding pass_over
  all_picked [] x xs is = absurd (omega (arith, ap length is))
  all_picked (e ∷ es) x xs is =
      let head : x ≡ value e = cc in
      let tail : xs ≡ map value es = cc in
      rw (head, tail)

-- ---- `max`
one_of : {m : ℤ} (l : List ℤ) (k : ℕ) → IsSomeAnd (slice_get l k) (λ x. x ≡ m) → m ∈ l
one_of [] k none = absurd none
one_of (x ∷ l) zero is = Memᴰ.head (sym is)
one_of (x ∷ l) (suc k) is = Memᴰ.tail (one_of l k is)

each_one : (P : ℤ → Type 0) (l : List ℤ) → Everywhere l P → {x : ℤ} → x ∈ l → P x
each_one P [] all m = absurd (Memᴰ.not-nil m)
each_one P (y ∷ l) all {x} m = ⊎_elim (λ (e : x ≡ y). rw e (all 0)) (λ n. each_one P l (λ k. all (suc k)) n) (Memᴰ.cases_cons m)

not_over : (x m : ℤ) → is_gt (int_cmp x m) ≡ false → x ≤ℤ m
not_over x m = by (lt_z x m) (lt_z m x) refl refl
  where
    by : (up down : Bool) → lt_z x m ≡ up → lt_z m x ≡ down → is_gt (cond up Less (cond down Greater Equal)) ≡ false → x ≤ℤ m
    by true down e f not = <ℤ→≤ℤ (lt_z_true e)
    by false true e f not = true_not_false not
    by false false e f not = lt_z_false f

pub maxed : {S : Type 0} {steps : S → Option ℤ → S → Type 0} (value : Entry → ℤ) (p : Run steps) (es : List Entry) (o : Option ℤ) → p.items ≡ map value es
    → MatchOption o (p.len ≡ 0) (λ m. AnyItem p (λ x. x ≡ m) × AllItems p (λ x. is_gt (int_cmp x m) ≡ false)) → unwrap_or o (pos 0) ≡ pass_over greater value es
maxed value p es None is none = none_left greater value es (ap length (sym is) ∙ sym p.long ∙ none)
maxed value p es (Some m) is (some, all) = greatest p.items refl
  where
    greatest : (l : List ℤ) → p.items ≡ l → m ≡ pass_over greater value es
    greatest [] none = absurd (omega (arith, some.1, p.long, ap length none))
    greatest (x ∷ xs) cons =
        let first : m ∈ x ∷ xs = rw cons at (one_of p.items some.0 (rw (at-is p some.0) at some.2)) in
        let least = each_one (λ y. is_gt (int_cmp y m) ≡ false) p.items (each_of p (λ y. is_gt (int_cmp y m) ≡ false) all) (rw (← cons) at (greatest_in x xs)) in
        ≤ℤ_antisym m _ (greatest_above x xs first) (not_over _ m least) ∙ all_picked greater value es x xs (sym cons ∙ is)
