use Rattle.guard_files.proofs.LoadedTexts.{loaded_policy}
use Rattle.derguard_program.proofs.laws.law_loaded.Goals as goal

pub returns : goal.returns
returns c = loaded_policy
