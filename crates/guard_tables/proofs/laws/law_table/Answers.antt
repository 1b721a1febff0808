use Rattle.guard_tables.proofs.OfTables.{table_members, table_room}
use Rattle.guard_tables.proofs.laws.law_table.Goals as goal

pub returns-clause-members : goal.returns-clause-members
returns-clause-members c = table_members

pub returns-clause-room : goal.returns-clause-room
returns-clause-room c = table_room
