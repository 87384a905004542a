-- the height falls
use Rattle.tree_nodes.proofs.put.+put_in.Given as goal

abbrev pub decreases-put_in : goal.decreases-put_in
decreases-put_in l = l.h
