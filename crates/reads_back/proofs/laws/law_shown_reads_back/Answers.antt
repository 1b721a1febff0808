use Rattle.reads_back.proofs.ShownTexts.{shown_reads_back}
use Rattle.reads_back.proofs.laws.law_shown_reads_back.Goals as goal

pub returns : goal.returns
returns c = shown_reads_back
