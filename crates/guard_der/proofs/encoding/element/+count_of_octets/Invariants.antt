use Rattle.guard_der.proofs.encoding.element.+count_of_octets.Given as goal

abbrev pub decreases-count_of_octets : goal.decreases-count_of_octets
decreases-count_of_octets l = l.more
