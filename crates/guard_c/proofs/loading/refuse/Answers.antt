use Rattle.std.proofs.Common.{refl}
use Rattle.guard_frames.specs.Texts.{named}
use Rattle.guard_c.proofs.Faults.{some_is_there}
use Rattle.guard_c.proofs.loading.refuse.Goals as goal

pub returns-in-Some-clause-refused : goal.returns-in-Some-clause-refused
returns-in-Some-clause-refused c = (some_is_there (named c.args.why.now) c.in-Some.ensures, (_, c.put.ensures))

pub returns-in-Some-clause-unnamed : goal.returns-in-Some-clause-unnamed
returns-in-Some-clause-unnamed c = λ none. absurd (some_is_there (named c.args.why.now) c.in-Some.ensures none)

pub returns-in-None-clause-refused : goal.returns-in-None-clause-refused
returns-in-None-clause-refused c = c.put-in-None.ensures

pub returns-in-None-clause-unnamed : goal.returns-in-None-clause-unnamed
returns-in-None-clause-unnamed c = λ none. refl
