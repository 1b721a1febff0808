use Rattle.std.specs.Prelude.{map}
use Rattle.guard_syntax.specs.TypeViews.{item_view}
use Rattle.guard_tagging.proofs.Numbers.FreeNumbers.{items_numbered}
use Rattle.guard_tagging.proofs.laws.law_numbering.Goals as goal

pub returns : goal.returns
returns c = items_numbered (map item_view c.args.items.now)
