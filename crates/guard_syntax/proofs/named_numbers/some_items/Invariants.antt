use Rattle.guard_syntax.specs.inside.Cursors.{ahead}
use Rattle.guard_syntax.specs.inside.ReadTypes.{read_item}
use Rattle.guard_syntax.specs.TypeViews.{item_view}
use Rattle.guard_syntax.proofs.Loops.{PartedSoFar}
use Rattle.guard_syntax.proofs.named_numbers.some_items.Given as goal

abbrev pub invariant-loop : goal.invariant-loop
invariant-loop l = PartedSoFar item_view read_item (ahead l.at) l.all.items l.counter (ahead l.rest)
