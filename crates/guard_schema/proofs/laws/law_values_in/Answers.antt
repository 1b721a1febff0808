use Rattle.guard_schema.proofs.Alone.{means_value, means_none}
use Rattle.guard_schema.proofs.laws.law_values_in.Goals as goal

pub returns-clause-meant : goal.returns-clause-meant
returns-clause-meant c = means_value

pub returns-clause-none : goal.returns-clause-none
returns-clause-none c = means_none
