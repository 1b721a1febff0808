use Rattle.std.proofs.Common.{[], ◌++◌}
use Rattle.guard_frames.proofs.Composing.{puts_closed}
use Rattle.guard_frames.proofs.link.Link.take.Goals as goal

pub returns-in-Err-clause-puts : goal.returns-in-Err-clause-puts
returns-in-Err-clause-puts g c =
    let x = c.in-Err.ensures.puts in (
      x.0,
      puts_closed (g.D.Decide.decides c.args.policy.now) c.args.self.now.totals c.put_piece.new.totals (c.args.self.now.held.items ++ c.args.piece.now)
          c.put_piece.new.held.items [] c.in-Err.closing x.0 x.1,
      x.2,
      x.3,
    )
