use Rattle.guard_tables.proofs.SlotCounts.{count_law}
use Rattle.guard_tables.proofs.PartCounts.{each_law, within_law}
use Rattle.guard_tables.proofs.FewSlots.{few_law}
use Rattle.guard_tables.proofs.laws.law_few_slots.Goals as goal

pub returns-clause-one : goal.returns-clause-one
returns-clause-one c = count_law

pub returns-clause-each : goal.returns-clause-each
returns-clause-each c = each_law

pub returns-clause-within : goal.returns-clause-within
returns-clause-within c = within_law

pub returns-clause-all : goal.returns-clause-all
returns-clause-all c = few_law
