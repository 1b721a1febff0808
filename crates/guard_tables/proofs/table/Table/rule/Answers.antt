use Rattle.guard_tables.proofs.OfTables.{rule_view, sound_there}
use Rattle.guard_tables.proofs.table.Table.rule.Goals as goal

pub returns-clause-rule : goal.returns-clause-rule
returns-clause-rule c = rule_view c.rule.result c.args.self.now.types.1 c.args.place c.rule.ensures

pub returns-clause-sound : goal.returns-clause-sound
returns-clause-sound c = sound_there c.rule.result c.args.self.now.types.1 c.args.place c.args.self.now.consistent.rules_sound c.rule.ensures
