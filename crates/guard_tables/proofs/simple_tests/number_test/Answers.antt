use Rattle.std.proofs.Common.{ap}
use Rattle.std.proofs.Math.Path.{fun_ext}
use Rattle.guard_tables.specs.Plan.{numbers}
use Rattle.guard_tables.proofs.simple_tests.number_test.Goals as goal

pub returns : goal.returns
returns c = λ kind whole. ap numbers (fun_ext (λ z. c.in_ok-numbers_of.ensures kind whole z))
