use Rattle.std.proofs.Common.{arith}
use Rattle.guard_tables.specs.NodesView.{spots_in}
use Rattle.guard_tables.specs.TableNodes.{spot_at}
use Rattle.guard_reader.proofs.Ranks.{below_elsewhere, higher}
use Rattle.guard_reader.proofs.set_members.passed.Goals as goal

pub returns-clause-elsewhere : goal.returns-clause-elsewhere
returns-clause-elsewhere c = λ k from to.
    below_elsewhere (spot_at (spots_in c.args.table.now) k).plan c.args.octets.now c.args.floor (c.requires.passed k from to) (omega (arith, c.rank_of-here.ensures, c.if-here-floor.false))

pub returns-clause-passed : goal.returns-clause-passed
returns-clause-passed c = higher c.args.table.now c.args.first c.args.below c.args.floor _ c.requires.passed (omega (arith, c.rank_of-here.ensures, c.if-here-floor.false))
