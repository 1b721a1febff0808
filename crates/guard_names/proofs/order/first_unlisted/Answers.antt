use Rattle.std.proofs.Common.{get_or}
use Rattle.guard_names.proofs.InOrder.Settling.{listed_at}
use Rattle.guard_names.proofs.order.first_unlisted.Goals as goal

pub bounds-listed-used : goal.bounds-listed-used
bounds-listed-used c = c.requires (get_or c.args.used.now c.loop-place.place 0) (listed_at c.args.used.now c.loop-place.place c.loop-place-test.true)
