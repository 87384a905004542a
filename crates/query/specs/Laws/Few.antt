-- The counts of any answer fit a word: no more hits than the capacity, no more nodes than the table has.
use Rattle.std.specs.Prelude.{◌≡◌, refl, List, map, ℕ, ◌≤◌, ℤ, length, Result, Ok, Err}
use Rattle.std.proofs.Common.{subst, inl, inr, arith}
use mathlib.Core.List.Memᴰ
use Rattle.std.proofs.Math.Decide.{dec_le}
use Rattle.std.proofs.lemmas.List.{length-map}
use Rattle.whole.specs.Lists.{◌∈◌}
use Rattle.whole.specs.Laws.Lists.{no_repeat_fits}
use Rattle.whole.specs.Laws.Rising.{<ℤ_no_repeat}
use Rattle.whole.specs.Laws.Tells.{dec_stable}
use Rattle.track.specs.Life.{identifier}
use Rattle.track.specs.Refusals.{First}
use Rattle.track.specs.declared.queries.Query.{Query}
use Rattle.node.specs.Entry.{cell_of}
use Rattle.table.specs.Header.{capacity, clock, root, height, greatest_capacity, nodes_for, entries_at}
use Rattle.table.specs.Laws.Header.{capacity_low}
use Rattle.table.specs.SoundTree.{leaves_of}
use Rattle.table.specs.Laws.Counts.{few_nodes}
use Rattle.table.specs.Sound.{Sound, held}
use Rattle.query.specs.Opened.{opened_nodes}
use Rattle.query.specs.Hits.{Hits}
use Rattle.query.specs.Laws.Finding.{opened_less}
use Rattle.query.specs.Queried.{answer_number, reasons, Queried}
use Rattle.query.specs.Inner.Few.{Few}
use Rattle.query.specs.declared.answer.NotListed.TheVariants.{TooMany, Refused}
use Rattle.query.specs.declared.answer.Found.{Found}
use Rattle.query.specs.declared.answer.NotListed.{NotListed}

module _ {w : List ℤ} (s : Sound w) where
  few_held : length (held w) ≤ greatest_capacity
  few_held = omega (arith, s.few_cells, capacity_low s.capacity_in)

  hits_few : {q : Query} {ids : List ℤ} → Hits w q ids → length ids ≤ greatest_capacity
  hits_few {q} {ids} h = omega (arith, few_held, length-map (held w) identifier, no_repeat_fits (<ℤ_no_repeat h.rising) ids_held)
    where
      ids_held : (id : ℤ) → id ∈ ids → id ∈ map identifier (held w)
      ids_held id m = let hit = h.only id m in subst (λ (z : ℤ). z ∈ map identifier (held w)) hit.has_id (Memᴰ.map identifier hit.is_held)

  opened_few : (q : Query) → length (opened_nodes w q) ≤ nodes_for greatest_capacity
  opened_few q =
      let leaves = leaves_of (entries_at w) (height w) (root w) in
      omega (
        arith,
        few_held,
        length-map leaves cell_of,
        opened_less (entries_at w) q (height w) (root w),
        few_nodes (entries_at w) (capacity w) (clock w) (height w) (root w) s.tree,
      )

-- an order of numbers that cannot be denied holds
≤_stable : {m n : ℕ} → ((m ≤ n → ⊥) → ⊥) → m ≤ n
≤_stable {m} {n} = dec_stable (dec_le m n)

module _ {w : List ℤ} {Backward : Type 0} {q : Query} {list : List ℤ} where
  -- an answer other than 1 is of a sound table
  not_unsound : {r : Result Found NotListed} {list' : List ℤ} → Queried w Backward q list r list' → (answer_number r ≡ 1 → ⊥) → (Sound w → ⊥) → ⊥
  not_unsound {r} p other u = by p.refusal
    where
      by : First (reasons w Backward q list) (answer_number r) → ⊥
      by (inl h) = other h.1
      by (inr h) = h.0 u

  pub answer_few : {r : Result Found NotListed} {list' : List ℤ} → Queried w Backward q list r list' → Few r
  answer_few {r = Ok f} p =
      let sound = not_unsound p (λ e. omega arith) in
      let l = p.accepted refl in
      record {
        few_hits = rw l.hit_count (≤_stable (λ many. sound (λ s. many (hits_few s l.hits))));
        few_opened = rw l.opened_count (≤_stable (λ many. sound (λ s. many (opened_few s q))));
      }
  answer_few {r = Err (TooMany n)} p =
      let sound = not_unsound p (λ e. omega arith) in
      let l = p.counted refl in
      record { few_hits = rw l.hit_count (≤_stable (λ many. sound (λ s. many (hits_few s l.hits)))); few_opened = omega arith }
  answer_few {r = Err (Refused x)} p = record { few_hits = omega arith; few_opened = omega arith }
