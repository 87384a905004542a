use Rattle.std.proofs.lemmas.Slice.Eq.{strip_prefix_is}
use Rattle.std.proofs.lemmas.Bool.Decides.{Decides-eqb}
use Rattle.desk_lines.specs.Laws.Forms.{no_word, word_and_fields}
use Rattle.desk_lines.proofs.field.form.Goals as goal

pub returns-in_err-strip_prefix : goal.returns-in_err-strip_prefix
returns-in_err-strip_prefix g c =
    let is = strip_prefix_is Decides-eqb c.args.line.now c.args.word.now c.strip_prefix.result c.strip_prefix.ensures.cases in
    rw c.from_residual.ensures (no_word c.args.word.now c.args.line.now g.row.N (rw c.in_err-strip_prefix.was at is))

pub returns : goal.returns
returns g c =
    let is = strip_prefix_is Decides-eqb c.args.line.now c.args.word.now c.strip_prefix.result c.strip_prefix.ensures.cases in
    word_and_fields c.args.word.now c.in_ok-strip_prefix.field-0.now g.row.N c.fields.result (rw c.in_ok-strip_prefix.was at is) c.fields.ensures
