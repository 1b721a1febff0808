use Rattle.std.proofs.Common.{◌≡◌, map, drop}
use Rattle.guard_names.specs.inside.DeclarationViews.{declaration_view}
use Rattle.guard_names.specs.Faults.{not_exported_among}
use Rattle.guard_names.specs.TableViews.{origin_in}
use Rattle.guard_names.proofs.checks.check_exported.Given as goal

abbrev pub invariant-loop-declaration : goal.invariant-loop-declaration
invariant-loop-declaration l =
    not_exported_among (origin_in l.table) (map declaration_view (drop l.declaration-index l.declarations)) ≡ not_exported_among (origin_in l.table) (map declaration_view l.declarations)
