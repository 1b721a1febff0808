use Rattle.guard_json.proofs.Drafts.{Adds_two, Adds_nothing}
use Rattle.guard_json.proofs.verdicts.add_breach.Goals as goal

pub returns : goal.returns
returns c =
    Adds_two c.name.ensures (cc)
    (Adds_two c.only_where.ensures (cc)
    (Adds_two c.number.ensures (cc)
    (Adds_two c.path.ensures (cc)
    (Adds_nothing _))))
