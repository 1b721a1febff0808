use Rattle.guard_json.proofs.Drafts.{Adds_two, Adds_nothing}
use Rattle.guard_json.proofs.members.add_route.Goals as goal

pub returns : goal.returns
returns c =
    Adds_two c.name.ensures (cc)
    (Adds_two c.name-2.ensures (cc)
    (Adds_two c.name-3.ensures (cc)
    (Adds_two c.add_verdicts.ensures (cc)
    (Adds_nothing _))))
