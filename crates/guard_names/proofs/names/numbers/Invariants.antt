use Rattle.std.proofs.Common.{◌≡◌, map, take}
use Rattle.guard_syntax.specs.ModuleViews.{module_view}
use Rattle.guard_names.specs.TableViews.{module_number}
use Rattle.guard_names.proofs.names.numbers.Given as goal

abbrev pub invariant-loop-module : goal.invariant-loop-module
invariant-loop-module l = l.numbers.items ≡ map (λ m. module_number (map module_view l.modules) m.name.now) (take l.module-index l.modules)
