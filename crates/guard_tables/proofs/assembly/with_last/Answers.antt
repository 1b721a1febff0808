use Rattle.guard_tables.proofs.Comings.{stacks}
use Rattle.guard_tables.proofs.assembly.with_last.Goals as goal

pub returns : goal.returns
returns c = stacks c.args.laid c.with.result c.with.ensures.hots c.with.ensures.colds
