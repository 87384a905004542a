use Rattle.std.proofs.Common.{◌≡◌, ◌∙◌, rules, add-zero, pos}
use Rattle.words.specs.Words.{row_at, word_at}
use Rattle.words.specs.Laws.Words.{row_at_rest}
use Rattle.words.proofs.Arrays.{made_by}
use Rattle.words.proofs.row.Goals as goal

pub returns : goal.returns
unfolding row_at
returns c =
    let w = c.args.t.now in
    let at = c.args.at in
    let made : c.from_fn.result ≡ row_at c.from_place-rest.result.now 0 =
    made_by _ _ (λ j. word_at c.from_place-rest.result.now j) (λ i y q called. (search rules, search rules)) c.from_fn.result 4 (pos 0) c.from_fn.ensures.items
    in
    made ∙ rw (c.from_place-rest.ensures, row_at_rest w at 0, add-zero)
