use Rattle.std.proofs.Common.{ap}
use Rattle.std.proofs.Math.Path.{fun_ext}
use Rattle.guard_tables.specs.Plan.{spelled}
use Rattle.guard_tables.proofs.simple_tests.spelling_test.Goals as goal

pub returns : goal.returns
returns c = ap spelled (fun_ext (λ code. c.in_ok-of.ensures code))
