use Rattle.std.proofs.Common.{ℕ, ◌+◌, ◌*◌}
use Rattle.conformance_texts.proofs.set_trees.Trees.+trees.Given as goal

-- a join counts more than the trees of its depth
abbrev pub decreases-joined : goal.decreases-joined
decreases-joined l = 2 * l.deepest + 1

abbrev pub decreases-tree : goal.decreases-tree
decreases-tree l = 2 * l.deepest
