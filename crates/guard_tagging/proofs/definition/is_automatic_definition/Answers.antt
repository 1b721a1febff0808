use Rattle.std.proofs.Common.{refl}
use Rattle.guard_syntax.specs.ModuleViews.{module_view, assignment_view}
use Rattle.guard_tagging.proofs.definition.is_automatic_definition.Goals as goal

pub scope_in-requires : goal.scope_in-requires
scope_in-requires c = (
  record { home = module_view c.in-Some.home.now; assignment = assignment_view c.in-Some.assignment.now },
  c.in-Some.ensures,
  refl,
)
