use Rattle.std.proofs.Common.{length}
use Rattle.guard_der.proofs.encoding.element.+tagged.Given as goal

abbrev pub decreases-tagged : goal.decreases-tagged
decreases-tagged l = length l.tags.now
