use Rattle.std.proofs.Common.{◌≡◌, map, drop}
use Rattle.guard_syntax.specs.ModuleViews.{symbol_view}
use Rattle.guard_names.specs.Faults.{first_where, is_undefined_export}
use Rattle.guard_names.specs.TableViews.{origin_in}
use Rattle.guard_names.proofs.uses.check_exports.Given as goal

abbrev pub invariant-loop-symbol : goal.invariant-loop-symbol
invariant-loop-symbol l =
    first_where (is_undefined_export (origin_in l.table) l.home) (λ s. s.site) (map symbol_view (drop l.symbol-index l.symbols))
    ≡ first_where (is_undefined_export (origin_in l.table) l.home) (λ s. s.site) (map symbol_view l.symbols)
