use Rattle.guard_schema.proofs.Throughout.EachType.{have_their_types}
use Rattle.guard_schema.proofs.Filled.Unfinished.{bare_again, tagged_again}
use Rattle.guard_schema.proofs.laws.law_unfinished.Goals as goal

pub returns-clause-bare : goal.returns-clause-bare
returns-clause-bare c = bare_again

pub returns-clause-tagged : goal.returns-clause-tagged
returns-clause-tagged c = tagged_again

pub returns-clause-schema : goal.returns-clause-schema
returns-clause-schema c = have_their_types
