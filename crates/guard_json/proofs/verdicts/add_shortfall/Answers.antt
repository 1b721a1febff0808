use Rattle.std.proofs.Common.{refl}
use Rattle.guard_json.proofs.Drafts.{Adds_two}
use Rattle.guard_json.proofs.verdicts.add_shortfall.Goals as goal

pub returns : goal.returns
returns c =
    Adds_two c.only_where.ensures (cc)
    (Adds_two c.put.ensures refl
    (Adds_two c.name.ensures (cc)
    (Adds_two c.add_violation.ensures (cc)
    c.put-2.ensures)))
