use Rattle.std.proofs.Common.{refl}
use Rattle.guard_schema.proofs.Filled.Steps.{constraints_there}
use Rattle.guard_schema.proofs.long_values.check_values.Goals as goal

pub returns-in-None : goal.returns-in-None
returns-in-None c = constraints_there c.args.ty.now _ _ (rw c.deref.ensures.value at c.in_ok-long_in_all.ensures)
    c.in-None.is

pub returns-in-Some : goal.returns-in-Some
returns-in-Some c = (
  c.in-Some.site,
  constraints_there c.args.ty.now _ _ (rw c.deref.ensures.value at c.in_ok-long_in_all.ensures)
      c.in-Some.is,
  refl,
)
