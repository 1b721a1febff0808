use Rattle.guard_tables.proofs.Forming.{form_law, conjunction_law}
use Rattle.guard_tables.proofs.Speaking.{speak_law, sound_law}
use Rattle.guard_tables.proofs.laws.law_forms.Goals as goal

pub returns-clause-fails : goal.returns-clause-fails
returns-clause-fails c = form_law

pub returns-clause-conjunctions : goal.returns-clause-conjunctions
returns-clause-conjunctions c = conjunction_law

pub returns-clause-speaks : goal.returns-clause-speaks
returns-clause-speaks c = speak_law

pub returns-clause-sound : goal.returns-clause-sound
returns-clause-sound c = sound_law
