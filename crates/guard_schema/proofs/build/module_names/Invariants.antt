use Rattle.std.proofs.Common.{◌≡◌, map, take}
use Rattle.std.specs.Prelude.{string_bytes}
use Rattle.guard_syntax.specs.ModuleViews.{module_view}
use Rattle.guard_schema.proofs.build.module_names.Given as goal

abbrev pub invariant-loop-module : goal.invariant-loop-module
invariant-loop-module l = map string_bytes l.names.items ≡ map (λ m. m.name)
    (map module_view (take l.module-index l.modules))
