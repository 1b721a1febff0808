use Rattle.reads_back.proofs.Reading.{reads_back}
use Rattle.reads_back.proofs.laws.law_reads_back.Goals as goal

pub returns : goal.returns
returns c = reads_back
