use Rattle.guard_files.proofs.RecordReading.{one_reading}
use Rattle.derguard_program.proofs.RecordsRead.{some_reading}
use Rattle.derguard_program.proofs.laws.law_one_reading.Goals as goal

pub returns : goal.returns
returns c = record { exists = some_reading; one = one_reading }
