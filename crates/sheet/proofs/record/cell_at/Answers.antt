use mathlib.Core.Path.{sym, ◌∙◌}
use Rattle.whole.specs.Laws.Within.{word_back}
use Rattle.track.proofs.Laws.DefaultCell.{default_cell}
use Rattle.sheet.specs.Sheet.{cell_from}
use Rattle.sheet.specs.Laws.Sheet.{cell_past}
use Rattle.sheet.proofs.record.cell_at.Goals as goal

pub returns-then-bytes-k : goal.returns-then-bytes-k
returns-then-bytes-k c = default_cell c.default.ensures ∙ sym (cell_past c.args.bytes.now c.args.k c.if-bytes-k.true)

pub returns : goal.returns
unfolding cell_from
returns c =
    let w₀ = c.read_word in
    let w₁ = c.read_word-2 in
    let w₂ = c.read_word-3 in
    let w₃ = c.read_word-4 in
    let w₄ = c.read_word-5 in
    let w₅ = c.read_word-6 in
    let at = c.total_for-at.ensures in
    simp (word_back w₀.result w₀.type_inv, word_back w₁.result w₁.type_inv, word_back w₂.result w₂.type_inv, word_back w₃.result w₃.type_inv, word_back w₄.result w₄.type_inv, word_back w₅.result w₅.type_inv)
    (rw (w₀.ensures, w₁.ensures, w₂.ensures, w₃.ensures, w₄.ensures, w₅.ensures, at))
