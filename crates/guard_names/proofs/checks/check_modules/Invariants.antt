use Rattle.std.proofs.Common.{◌≡◌, map, drop}
use Rattle.guard_syntax.specs.ModuleViews.{module_view}
use Rattle.guard_names.specs.Faults.{first_found, no_module_in}
use Rattle.guard_names.specs.TableViews.{origin_in}
use Rattle.guard_names.proofs.checks.check_modules.Given as goal

abbrev pub invariant-loop-module : goal.invariant-loop-module
invariant-loop-module l =
    first_found (no_module_in (origin_in l.table)) (map module_view (drop l.module-index l.modules)) ≡ first_found (no_module_in (origin_in l.table)) (map module_view l.modules)
