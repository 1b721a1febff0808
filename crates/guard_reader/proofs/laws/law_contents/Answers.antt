use Rattle.guard_reader.proofs.Messages.{contents_law}
use Rattle.guard_reader.proofs.laws.law_contents.Goals as goal

pub returns : goal.returns
returns c = contents_law
