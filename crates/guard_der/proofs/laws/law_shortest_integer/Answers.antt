use Rattle.guard_der.proofs.Simple.Shortest.{integer_spelled, shortest_integer}
use Rattle.guard_der.proofs.laws.law_shortest_integer.Goals as goal

pub returns-clause-back : goal.returns-clause-back
returns-clause-back c = integer_spelled

pub returns-clause-shortest : goal.returns-clause-shortest
returns-clause-shortest c = shortest_integer
