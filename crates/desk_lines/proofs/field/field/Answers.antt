use Rattle.std.proofs.Common.{rules}
use Rattle.desk_lines.specs.Laws.FieldsRead.{no_field_there, after_space}
use Rattle.desk_lines.proofs.field.field.Goals as goal

pub returns-then-ne : goal.returns-then-ne
returns-then-ne c = no_field_there c.args.line.now c.args.at (λ h e. search rules)

pub returns : goal.returns
returns c =
    after_space c.args.line.now c.args.at c.read_number.result (search rules) (search rules) c.read_number.ensures
