use Rattle.std.proofs.Common.{◌≡◌, ◌≤◌, ◌++◌, All, map, drop, vec_len}
use Rattle.guard_syntax.specs.ModuleViews.{module_view}
use Rattle.guard_names.specs.Declarations as declared
use Rattle.guard_names.specs.inside.DeclarationViews.{declaration_view}
use Rattle.guard_names.specs.inside.Numbered.{IsNumbered}
use Rattle.guard_names.proofs.declarations.declarations.Given as goal

abbrev pub invariant-loop-module : goal.invariant-loop-module
invariant-loop-module l = record {
  gathered : map declaration_view l.found.items ++ declared.declarations_from l.next (map module_view (drop l.module-index l.modules)) ≡ declared.declarations (map module_view l.modules);
  few : l.next ≤ vec_len l.found;
  numbered : All (IsNumbered (map module_view l.modules)) l.found.items;
}
