use Rattle.reads_back.proofs.OneReading.{one_reading}
use Rattle.reads_back.proofs.laws.law_one_value_of_text.Goals as goal

pub returns : goal.returns
returns c = one_reading
