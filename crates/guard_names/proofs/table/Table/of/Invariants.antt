use Rattle.std.proofs.Common.{◌≡◌, ℕ, List, [], map, take, drop, Option, option_map}
use Rattle.std.specs.Map.{lookup}
use Rattle.guard_syntax.specs.ModuleViews.{module_view}
use Rattle.guard_names.specs.Declarations.{origin_there}
use Rattle.guard_names.specs.inside.DeclarationViews.{declaration_view, origin_view}
use Rattle.guard_names.specs.Faults.{duplicate_after}
use Rattle.guard_names.specs.TableViews.{is_key}
use Rattle.guard_names.proofs.table.Table.of.Given as goal

abbrev pub invariant-loop-declaration : goal.invariant-loop-declaration
invariant-loop-declaration l = record {
  found : (scope : Option (List ℕ)) (name : List ℕ) → option_map origin_view (lookup (is_key (map module_view l.modules) scope name) l.origins.entries) ≡ origin_there (map declaration_view (take l.declaration-index l.declarations)) scope name;
  rest :
      duplicate_after (map declaration_view (take l.declaration-index l.declarations)) (map declaration_view (drop l.declaration-index l.declarations))
      ≡ duplicate_after [] (map declaration_view l.declarations);
}
