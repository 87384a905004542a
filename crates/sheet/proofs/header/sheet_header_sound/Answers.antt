use mathlib.Core.Path.{◌∙◌}
use Rattle.whole.specs.Laws.Tells.{leb_tells}
use Rattle.whole.specs.Laws.Within.{word_back}
use Rattle.sheet.specs.Laws.SheetHeader.{sheet_header_tells}
use Rattle.sheet.proofs.header.sheet_header_sound.Goals as goal

pub returns : goal.returns
returns c =
    let many = c.count_of.ensures.0 in
    let total_is = word_back c.total_word-total.result c.total_word-total.type_inv ∙ c.total_word-total.ensures in
    let count_is = word_back c.count_word.result c.count_word.type_inv ∙ c.count_word.ensures in
    let offset_is = word_back c.offset_word.result c.offset_word.type_inv ∙ c.offset_word.ensures in
    let clock_is = word_back c.clock_of.result c.clock_of.type_inv ∙ c.clock_of.ensures in
    sheet_header_tells leb_tells (simp count_is at c.is_count_to.ensures) (simp offset_is at c.is_number.ensures) (simp clock_is at c.is_minute.ensures)
    (simp (total_is, c.total_for.ensures, many) at c.is_number-2.ensures) (simp total_is at c.is_number-3.ensures)
