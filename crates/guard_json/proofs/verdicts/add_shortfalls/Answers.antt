use Rattle.std.proofs.Common.{refl}
use Rattle.guard_json.proofs.Drafts.{Adds_two}
use Rattle.guard_json.proofs.verdicts.add_shortfalls.Goals as goal

pub returns : goal.returns
returns c =
    Adds_two c.put.ensures refl
    (Adds_two c.put-2.ensures refl
    (Adds_two c.add_pieces.ensures (cc)
    c.put-3.ensures))
