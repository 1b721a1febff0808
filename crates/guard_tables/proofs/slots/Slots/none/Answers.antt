use Rattle.std.proofs.Common.{refl}
use Rattle.guard_tables.specs.Slots.{none}
use Rattle.guard_tables.proofs.slots.Slots.none.Goals as goal

pub returns : goal.returns
unfolding none
returns c = refl
