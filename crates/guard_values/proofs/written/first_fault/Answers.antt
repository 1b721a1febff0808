use Rattle.std.proofs.Common.{false, Err}
use Rattle.guard_model.proofs.Results.{refuses_bind}
use Rattle.guard_model.specs.TypeView.{type_view}
use Rattle.guard_model.specs.ValueView.{value_view}
use Rattle.guard_syntax.specs.Views as trees
use Rattle.guard_values.specs.declared.fault.ValueFault.TheVariants.{TooLarge}
use Rattle.guard_values.specs.inside.Reading.{build, site_of}
use Rattle.guard_values.specs.Views.{named, values_of}
use Rattle.guard_values.proofs.FirstFaults.NamedRefusals.{too_long}
use Rattle.guard_values.proofs.written.first_fault.Goals as goal

pub returns-in-Ok : goal.returns-in-Ok
returns-in-Ok c = too_long (values_of c.args.scope) (type_view c.args.ty.now) c.args.tree.now (value_view c.in-Ok._counted.value) c.in-Ok.ensures.given

pub returns-in-Err : goal.returns-in-Err
returns-in-Err c =
    refuses_bind (named c.in-Err.fault) (build (values_of c.args.scope) false (type_view c.args.ty.now) (trees.value_view c.args.tree.now)) (λ v. Err (TooLarge (site_of (trees.value_view c.args.tree.now)))) c.in-Err.ensures.given
