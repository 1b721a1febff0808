use Rattle.guard_der.proofs.Simple.Shortest.{subidentifier_spelled, shortest_subidentifier}
use Rattle.guard_der.proofs.laws.law_shortest_subidentifier.Goals as goal

pub returns-clause-back : goal.returns-clause-back
returns-clause-back c = subidentifier_spelled

pub returns-clause-shortest : goal.returns-clause-shortest
returns-clause-shortest c = shortest_subidentifier
