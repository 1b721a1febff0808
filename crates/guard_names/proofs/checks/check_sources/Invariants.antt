use Rattle.std.proofs.Common.{◌≡◌, map, drop}
use Rattle.guard_syntax.specs.ModuleViews.{import_view}
use Rattle.guard_names.specs.Faults.{first_where, is_missing}
use Rattle.guard_names.specs.TableViews.{origin_in}
use Rattle.guard_names.proofs.checks.check_sources.Given as goal

abbrev pub invariant-loop-import : goal.invariant-loop-import
invariant-loop-import l =
    first_where (is_missing (origin_in l.table)) (λ i. i.module_site) (map import_view (drop l.import-index l.imports))
    ≡ first_where (is_missing (origin_in l.table)) (λ i. i.module_site) (map import_view l.imports)
