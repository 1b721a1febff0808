use Rattle.guard_json.proofs.Drafts.{Adds_two, Adds_nothing}
use Rattle.guard_json.proofs.verdicts.add_verdict.Goals as goal

pub returns : goal.returns
returns c =
    Adds_two c.name.ensures (cc)
    (Adds_two c.add_details.ensures (cc)
    (Adds_nothing _))
