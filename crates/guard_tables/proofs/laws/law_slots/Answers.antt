use Rattle.guard_tables.proofs.SlotRanges.{below_law, without_law}
use Rattle.guard_tables.proofs.SlotSets.{none_law, only_law, added_law}
use Rattle.guard_tables.proofs.laws.law_slots.Goals as goal

pub returns-clause-none : goal.returns-clause-none
returns-clause-none c = none_law

pub returns-clause-only : goal.returns-clause-only
returns-clause-only c = only_law

pub returns-clause-added : goal.returns-clause-added
returns-clause-added c = added_law

pub returns-clause-below : goal.returns-clause-below
returns-clause-below c = below_law

pub returns-clause-without : goal.returns-clause-without
returns-clause-without c = without_law
