use Rattle.derguard_program.proofs.RunHeadline.{keeps, keeps_plain}
use Rattle.derguard_program.proofs.laws.law_headline_of_run.Goals as goal

pub returns : goal.returns
returns c = record { run = keeps c.law_guarded.ensures; plain = keeps_plain c.law_guarded.ensures }
