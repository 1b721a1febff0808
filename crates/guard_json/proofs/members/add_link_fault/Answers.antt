use Rattle.guard_json.proofs.Drafts.{Adds_two, Adds_nothing}
use Rattle.guard_json.proofs.members.add_link_fault.Goals as goal

pub returns : goal.returns
returns c =
    Adds_two c.only_where.ensures (cc)
    (Adds_two c.only_where-2.ensures (cc)
    (Adds_two c.text.ensures (cc)
    (Adds_nothing _)))
