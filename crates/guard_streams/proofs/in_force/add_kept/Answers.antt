use Rattle.std.specs.Prelude.{codes}
use Rattle.hex.specs.Hex.{encode_lower}
use Rattle.guard_streams.proofs.Chains.{three}
use Rattle.guard_streams.proofs.in_force.add_kept.Goals as goal

pub returns : goal.returns
returns c =
    three c.args.text.now.items _ _ _ (codes "derguard: the old policy stays, digest ") (encode_lower c.args.digest.now)
    (codes "\n") c.in_ok-add.ensures (rw (c.as_slice.ensures, c.digits_of.ensures) at c.in_ok-add-2.ensures)
    c.in_ok-add-3.ensures
