use Rattle.std.proofs.Common.{◌+◌, ◌*◌}
use Rattle.guard_reader.proofs.layers.+outermost.Given as goal

abbrev pub decreases-outermost : goal.decreases-outermost
decreases-outermost l = 2 * l.at + 1

abbrev pub decreases-outermost_round : goal.decreases-outermost_round
decreases-outermost_round l = 2 * l.at
