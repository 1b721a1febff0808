use Rattle.guard_der.proofs.encoding.octets.+push_fewest.Given as goal

abbrev pub decreases-push_fewest : goal.decreases-push_fewest
decreases-push_fewest l = l.more
