use Rattle.std.proofs.Common.{◌≡◌, ◌++◌, map, drop}
use Rattle.std.specs.List.{flat_map}
use Rattle.guard_syntax.specs.ModuleViews.{module_view}
use Rattle.guard_names.specs.Faults.{first_found, undefined_in}
use Rattle.guard_names.specs.inside.Reading.{used_in_module, listed_uses}
use Rattle.guard_names.specs.TableViews.{origin_in, meaning_in}
use Rattle.guard_names.proofs.uses.uses.Given as goal

abbrev pub invariant-loop-module : goal.invariant-loop-module
invariant-loop-module l = record {
  found : listed_uses l.all ++ flat_map (used_in_module (meaning_in l.meanings)) (map module_view (drop l.module-index l.modules)) ≡ flat_map (used_in_module (meaning_in l.meanings)) (map module_view l.modules);
  rest :
      first_found (undefined_in (origin_in l.table) (meaning_in l.meanings)) (map module_view (drop l.module-index l.modules))
      ≡ first_found (undefined_in (origin_in l.table) (meaning_in l.meanings)) (map module_view l.modules);
}
