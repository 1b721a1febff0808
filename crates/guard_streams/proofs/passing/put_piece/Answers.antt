use Rattle.std.proofs.Common.{◌++◌, ℕ, List, ap}
use Rattle.guard_streams.proofs.Putting.{puts}
use Rattle.guard_streams.proofs.passing.put_piece.Goals as goal

pub returns : goal.returns
returns g c =
    puts _ _ _ _
    (ap (λ (s : List ℕ). s ++ c.args.octets.now) c.piece_header.ensures)
    c.put_both.ensures.all c.put_both.ensures.part c.put_both.ensures.failed
