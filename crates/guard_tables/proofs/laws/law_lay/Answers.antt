use Rattle.guard_tables.proofs.Laying.{lay_law}
use Rattle.guard_tables.proofs.SlotOfTypes.{member_law}
use Rattle.guard_tables.proofs.laws.law_lay.Goals as goal

pub returns-clause-demands : goal.returns-clause-demands
returns-clause-demands c = lay_law

pub returns-clause-members : goal.returns-clause-members
returns-clause-members c = member_law
