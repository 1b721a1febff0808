use Rattle.std.proofs.Common.{◌-◌, vec_len}
use Rattle.guard_tables.proofs.segments.add_starts.Given as goal

abbrev pub decreases-loop-last : goal.decreases-loop-last
decreases-loop-last l = 1025 - vec_len l.starts
