use Rattle.table.specs.Laws.ScanParts.{node_in_table}
use Rattle.table.proofs.sound.root_sound.Goals as goal

pub node_at-requires : goal.node_at-requires
node_at-requires c = node_in_table c.args.t.now _ _ _ c.requires.long_enough c.requires.root_in c.root-i.ensures.0

pub count_at-requires : goal.count_at-requires
count_at-requires c = node_in_table c.args.t.now _ _ _ c.requires.long_enough c.requires.root_in c.root-i.ensures.0
