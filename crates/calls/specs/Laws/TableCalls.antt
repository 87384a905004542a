-- One number, one pair of counts and one list only fit a call.
use Rattle.std.specs.Prelude.{◌≡◌, List, ℤ, pos}
use Rattle.std.proofs.Common.{sym, ap, ◌∙◌}
use Rattle.track.specs.Laws.Refusals.{first_fixed}
use Rattle.track.specs.declared.queries.Query.{Query}
use Rattle.table.specs.Fresh.{fresh_reasons}
use Rattle.query.specs.Queried.{answer_number, answer_hits, answer_opened}
use Rattle.query.specs.Laws.Queried.{queried_fixed}
use Rattle.calls.specs.TableCalls.{FreshGives, QueryGives}

pub fresh_number_fixed : {cells : ℤ} {w : List ℤ} {r s : ℤ} {v u : List ℤ} → FreshGives cells w r v → FreshGives cells w s u → r ≡ s
fresh_number_fixed {cells} {w} f g =
    f.is ∙ ap pos (first_fixed (fresh_reasons cells w) f.number g.number f.makes.refusal g.makes.refusal) ∙ sym g.is

pub query_gives_fixed : {w : List ℤ} {Backward : Type 0} {q : Query} {list : List ℤ} {r hits opened : ℤ} {list' : List ℤ} {s hits₂ opened₂ : ℤ} {list'' : List ℤ}
    → QueryGives w Backward q list r hits opened list' → QueryGives w Backward q list s hits₂ opened₂ list'' → (r ≡ s) × (hits ≡ hits₂) × (opened ≡ opened₂) × (list' ≡ list'')
query_gives_fixed f g =
    let same = queried_fixed f.queried g.queried in
    let m = f.in_numbers in
    let n = g.in_numbers in (
      m.number_is ∙ ap (λ a. pos (answer_number a)) same.0 ∙ sym n.number_is,
      m.hits_is ∙ ap (λ a. pos (answer_hits a)) same.0 ∙ sym n.hits_is,
      m.opened_is ∙ ap (λ a. pos (answer_opened a)) same.0 ∙ sym n.opened_is,
      same.1,
    )
