use Rattle.std.proofs.Common.{refl}
use Rattle.guard_schema.proofs.Filled.Steps.{parts_counted}
use Rattle.guard_schema.proofs.finishing.part_count.Goals as goal

pub returns : goal.returns
returns c = parts_counted c.args.ty.now c.components.result.now c.components.ensures _ refl
