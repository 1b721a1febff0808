use Rattle.std.proofs.Common.{◌≡◌, map, drop, slice_get}
use Rattle.guard_syntax.specs.ModuleViews.{module_view}
use Rattle.guard_names.specs.Declarations.{definitions}
use Rattle.guard_names.proofs.names.home_of.Given as goal

abbrev pub invariant-loop-place : goal.invariant-loop-place
invariant-loop-place l = slice_get (definitions (map module_view (drop l.place l.modules))) l.left ≡ slice_get (definitions (map module_view l.modules)) l.id
