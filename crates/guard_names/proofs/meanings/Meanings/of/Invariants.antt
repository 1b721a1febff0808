use Rattle.std.proofs.Common.{◌≡◌, ℕ, List, map, take, Some, None, is_some, if◌then◌else◌}
use Rattle.std.specs.Map.{lookup}
use Rattle.guard_syntax.specs.ModuleViews.{module_view}
use Rattle.guard_names.specs.Declarations.{origin_there, definition_of}
use Rattle.guard_names.specs.inside.DeclarationViews.{declaration_view}
use Rattle.guard_names.specs.TableViews.{is_key, origin_in}
use Rattle.guard_names.proofs.meanings.Meanings.of.Given as goal

abbrev pub invariant-loop-declaration : goal.invariant-loop-declaration
invariant-loop-declaration l =
    (home name : List ℕ) → lookup (is_key (map module_view l.modules) (Some home) name) l.numbers.entries
    ≡ (if is_some (origin_there (map declaration_view (take l.declaration-index l.declarations)) (Some home) name) then definition_of (origin_in l.table) home name else None)
