use Rattle.std.proofs.Common.{[], ◌∷◌, subst, sym}
use Rattle.guard_files.specs.Reading.{SayNoneLoaded}
use Rattle.guard_messages.specs.FirstRun.{first_module, first_policy}
use Rattle.guard_messages.proofs.built_in.first_run.Goals as goal

pub returns-in-Err-clause-none : goal.returns-in-Err-clause-none
returns-in-Err-clause-none c =
    (subst (SayNoneLoaded (first_module ∷ []) first_policy) (sym c.plain.ensures.fault) c.in-Err.ensures.none, c.plain.ensures.silent)
