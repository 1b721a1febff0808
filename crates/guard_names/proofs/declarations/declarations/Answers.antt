use Rattle.guard_names.proofs.Declared.Modules.{has_number}
use Rattle.guard_names.proofs.declarations.declarations.Goals as goal

pub add_module-requires-clause-there : goal.add_module-requires-clause-there
add_module-requires-clause-there c = has_number c.args.modules.now c.loop-module.module-index c.module-item.result c.loop-module-test.true c.module-item.is
