use Rattle.guard_tables.proofs.OfTables.{type_there, type_nowhere}
use Rattle.guard_tables.proofs.kept_types.type_at.Goals as goal

pub returns-in-Some : goal.returns-in-Some
returns-in-Some c = type_there c.args.declared.now c.args.others.now c.args.at c.in-Some.ty c.get.result c.if-at-eq0.false c.in-Some.is c.get.ensures.lookup.0 c.get.ensures.lookup.1

pub returns-in-None : goal.returns-in-None
returns-in-None c = type_nowhere c.args.declared.now c.args.others.now c.args.at c.get.result c.if-at-eq0.false c.in-None.is c.get.ensures.lookup.0
