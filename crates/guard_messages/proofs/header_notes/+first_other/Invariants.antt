use Rattle.std.proofs.Common.{length}
use Rattle.guard_messages.proofs.header_notes.+first_other.Given as goal

abbrev pub decreases-first_other : goal.decreases-first_other
decreases-first_other l = length l.octets.now
