use Rattle.std.proofs.Common.{◌≡◌, drop, map}
use Rattle.guard_syntax.specs.TypeViews.{named_view}
use Rattle.guard_tagging.specs.inside.ReadItems.{bits_fault}
use Rattle.guard_tagging.proofs.numbering.check_bits.Given as goal

abbrev pub invariant-loop-tree : goal.invariant-loop-tree
invariant-loop-tree l = bits_fault (map named_view (drop l.tree-index l.trees)) ≡ bits_fault (map named_view l.trees)
