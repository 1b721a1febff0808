use Rattle.guard_json.proofs.Drafts.{Adds_two, Adds_nothing}
use Rattle.guard_json.proofs.members.add_frame.Goals as goal

pub returns : goal.returns
returns c =
    Adds_two c.number.ensures (cc)
    (Adds_two c.add_outcome.ensures (cc)
    (Adds_nothing _))
