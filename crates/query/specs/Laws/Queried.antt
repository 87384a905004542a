-- The hits are fixed by the table and the query; the answer and the list by the table, the arguments and the list before.
use Rattle.std.specs.Prelude.{◌≡◌, refl, List, [], ◌∷◌, ◌++◌, ℕ, ◌<◌, ℤ, length, Result, Ok, Err}
use Rattle.std.proofs.Common.{sym, ap, ap₂, ◌∙◌, inl, inr, arith}
use Rattle.std.proofs.Math.Decide.{ℕ_discrete}
use Rattle.whole.specs.Laws.Rising.{<ℤ_same}
use Rattle.track.specs.Query.{query_reasons}
use Rattle.track.specs.Refusals.{First, ◌when◌}
use Rattle.track.specs.Laws.Refusals.{first_fixed, number_fixes, refused_not_zero}
use Rattle.track.specs.declared.queries.Query.{Query}
use Rattle.table.specs.Header.{clock}
use Rattle.query.specs.Hits.{Hits, MoreHits}
use Rattle.query.specs.Queried.{answer_number, answer_hits, answer_opened, reasons, Queried}
use Rattle.query.specs.declared.answer.Found.{Found}
use Rattle.query.specs.declared.answer.NotListed.TheVariants.{TooMany, Refused}
use Rattle.query.specs.declared.answer.NotListed.{NotListed}

pub hits_fixed : {w : List ℤ} {q : Query} {ids jds : List ℤ} → Hits w q ids → Hits w q jds → ids ≡ jds
hits_fixed h j = <ℤ_same h.rising j.rising (λ id m. j.all id (h.only id m)) (λ id m. h.all id (j.only id m))

pub hits_length : {w : List ℤ} {q : Query} {ids jds : List ℤ} → Hits w q ids → Hits w q jds → length ids ≡ length jds
hits_length h j = ap length (hits_fixed h j)

found_same : {f g : Found} → f.hits ≡ g.hits → f.opened ≡ g.opened → f ≡ g
found_same h o = ap₂ make h o
  where
    make : ℕ → ℕ → Found
    make hits opened = record { hits = hits; opened = opened }

-- ---- what a refusal counts
pub refused_opened : (r : Result Found NotListed) → (answer_number r ≡ 0 → ⊥) → answer_opened r ≡ 0
refused_opened (Ok f) n = absurd (n refl)
refused_opened (Err (TooMany m)) n = refl
refused_opened (Err (Refused x)) n = refl

pub refused_hits : (r : Result Found NotListed) → (answer_number r ≡ 0 → ⊥) → (answer_number r ≡ 10 → ⊥) → answer_hits r ≡ 0
refused_hits (Ok f) n m = absurd (n refl)
refused_hits (Err (TooMany i)) n m = absurd (m refl)
refused_hits (Err (Refused x)) n m = refl

-- ---- a query's answer
module _ {w : List ℤ} {B : Type 0} {q : Query} {list : List ℤ} where
  -- 10 is given only where there are hits, so a refusal with zeros has not that number
  some_hits : {r : Result Found NotListed} {list' : List ℤ} → Queried w B q list r list' → answer_number r ≡ 10 → 0 < answer_hits r
  some_hits {r} p e = omega (arith, (p.counted e).hit_count, more p.refusal e)
    where
      more : First (reasons w B q list) (answer_number r) → answer_number r ≡ 10 → 0 < length (p.counted e).ids
      more (inl h) f = absurd (omega arith)
      more (inr h) f = next h.1
        where
          next : First (query_reasons (clock w) B q ++ (10 when (MoreHits w q (length list)) ∷ [])) (answer_number r) → 0 < length (p.counted e).ids
          next (inl h) = absurd (omega arith)
          next (inr (n, inl h)) = absurd (omega arith)
          next (inr (n, inr (m, inl h))) = absurd (omega arith)
          next (inr (n, inr (m, inr (o, inl h)))) = omega (arith, h.0.more, hits_length h.0.hits (p.counted e).hits)
          next (inr (n, inr (m, inr (o, inr h)))) = absurd (omega arith)

  -- two answers with one number and one pair of counts are the same, since 10 comes with its hits
  answer_same : {r s : Result Found NotListed} {list' list'' : List ℤ} → Queried w B q list r list' → Queried w B q list s list'' → answer_number r ≡ answer_number s
      → answer_hits r ≡ answer_hits s → answer_opened r ≡ answer_opened s → r ≡ s
  answer_same {r = Ok f} {s = Ok g} p p' e h o = ap Ok (found_same h o)
  answer_same {r = Ok f} {s = Err (TooMany n)} p p' e h o = absurd (omega arith)
  answer_same {r = Ok f} {s = Err (Refused x)} p p' e h o = absurd (refused_not_zero x (sym e))
  answer_same {r = Err (TooMany m)} {s = Ok g} p p' e h o = absurd (omega arith)
  answer_same {r = Err (TooMany m)} {s = Err (TooMany n)} p p' e h o = ap (λ n. Err (TooMany n)) h
  answer_same {r = Err (TooMany m)} {s = Err (Refused x)} p p' e h o = absurd (omega (arith, some_hits p' (sym e)))
  answer_same {r = Err (Refused x)} {s = Ok g} p p' e h o = absurd (refused_not_zero x e)
  answer_same {r = Err (Refused x)} {s = Err (TooMany n)} p p' e h o = absurd (omega (arith, some_hits p e))
  answer_same {r = Err (Refused x)} {s = Err (Refused y)} p p' e h o = ap (λ x. Err (Refused x)) (number_fixes x y e)

  module _ {r s : Result Found NotListed} {list' list'' : List ℤ} (p : Queried w B q list r list') (p' : Queried w B q list s list'') where
    number_fixed : answer_number r ≡ answer_number s
    number_fixed = first_fixed (reasons w B q list) (answer_number r) (answer_number s) p.refusal p'.refusal

    -- the answer and what is left in the list
    pub queried_fixed : (r ≡ s) × (list' ≡ list'')
    queried_fixed = by (ℕ_discrete (answer_number r) 0) (ℕ_discrete (answer_number r) 10)
      where
        by : Dec (answer_number r ≡ 0) → Dec (answer_number r ≡ 10) → (r ≡ s) × (list' ≡ list'')
        by (yes e) d =
            let a = p.accepted e in
            let b = p'.accepted (sym number_fixed ∙ e) in
            let same = hits_fixed a.hits b.hits in (
              answer_same p p' number_fixed (a.hit_count ∙ ap length same ∙ sym b.hit_count) (a.opened_count ∙ sym b.opened_count),
              a.written ∙ rw same (sym b.written),
            )
        by (no n) d = (refused d, p.unchanged n ∙ sym (p'.unchanged (λ e. n (number_fixed ∙ e))))
          where
            refused : Dec (answer_number r ≡ 10) → r ≡ s
            refused (yes e) =
                let a = p.counted e in
                let b = p'.counted (sym number_fixed ∙ e) in
                answer_same p p' number_fixed (a.hit_count ∙ hits_length a.hits b.hits ∙ sym b.hit_count) (refused_opened r n ∙ sym (refused_opened s (λ e. n (number_fixed ∙ e))))
            refused (no m) = answer_same p p' number_fixed (refused_hits r n m ∙ sym (refused_hits s (λ e. n (number_fixed ∙ e)) (λ e. m (number_fixed ∙ e)))) (refused_opened r n ∙ sym (refused_opened s (λ e. n (number_fixed ∙ e))))
