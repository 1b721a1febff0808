use Rattle.std.proofs.Common.{◌≡◌, ◌≤◌, ◌++◌, All, Some, map, drop, vec_len}
use Rattle.std.specs.List.{flat_map}
use Rattle.guard_syntax.specs.ModuleViews.{module_view, import_view}
use Rattle.guard_names.specs.Declarations as declared
use Rattle.guard_names.specs.inside.DeclarationViews.{declaration_view}
use Rattle.guard_names.specs.inside.Numbered.{HasNumber, IsNumbered}
use Rattle.guard_names.proofs.declarations.add_imports.Given as goal

abbrev pub invariant-loop-import : goal.invariant-loop-import
invariant-loop-import l = record {
  gathered :
      map declaration_view l.into.items ++ flat_map (declared.import_declarations l.home.name.now) (map import_view (drop l.import-index l.imports))
      ≡ map declaration_view l.fn.into.items ++ flat_map (declared.import_declarations l.home.name.now) (map import_view l.imports);
  more : vec_len l.fn.into ≤ vec_len l.into;
  numbered : HasNumber (map module_view l.modules) (Some l.home) → All (IsNumbered (map module_view l.modules)) l.fn.into.items → All (IsNumbered (map module_view l.modules)) l.into.items;
}
