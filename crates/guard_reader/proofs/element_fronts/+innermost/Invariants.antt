use Rattle.guard_reader.proofs.element_fronts.+innermost.Given as goal

abbrev pub decreases-innermost : goal.decreases-innermost
decreases-innermost l = l.at
