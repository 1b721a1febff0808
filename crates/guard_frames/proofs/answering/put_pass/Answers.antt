use Rattle.std.proofs.Common.{◌∙◌, refl}
use Rattle.std.specs.Prelude.{codes}
use Rattle.guard_frames.proofs.Asking.{ends_joined, ends_same}
use Rattle.guard_frames.proofs.answering.put_pass.Goals as goal

pub returns-clause-lines : goal.returns-clause-lines
returns-clause-lines g c =
    c.put_all.ensures.lines
    (ends_same _ _ (c.as_slice.ensures.value ∙ c.append-8.ensures) (ends_joined _ _ (record { front = codes " pass"; ends = refl })))
