use Rattle.guard_der.proofs.head.+number_after.Given as goal

abbrev pub decreases-number_after : goal.decreases-number_after
decreases-number_after l = l.tries
