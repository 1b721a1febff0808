use Rattle.std.proofs.Common.{[], pos, refl, ap}
use Rattle.std.proofs.Math.Path.{fun_ext}
use Rattle.guard_model.specs.AbstractType as type
use Rattle.guard_tables.specs.Plan.{sizes}
use Rattle.guard_tables.proofs.simple_tests.size_test.Goals as goal

pub returns : goal.returns
returns c = ap sizes (fun_ext (λ n. c.in_ok-numbers_of.ensures (type.integer []) refl (pos n)))
