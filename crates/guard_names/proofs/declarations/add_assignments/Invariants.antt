use Rattle.std.proofs.Common.{◌≡◌, ◌+◌, ◌≤◌, ◌++◌, All, List, Some, map, drop, vec_len}
use Rattle.guard_syntax.specs.Trees.{WrittenModule}
use Rattle.guard_syntax.specs.ModuleViews.{module_view, assignment_view}
use Rattle.guard_names.specs.Declarations as declared
use Rattle.guard_names.specs.inside.DeclarationViews.{declaration_view}
use Rattle.guard_names.specs.inside.Numbered.{HasNumber, IsNumbered}
use Rattle.guard_names.proofs.declarations.add_assignments.Given as goal

abbrev pub invariant-loop-assignment : goal.invariant-loop-assignment
invariant-loop-assignment l = record {
  gathered :
      map declaration_view l.into.items ++ declared.assigned_declarations (module_view l.tree) l.id (map assignment_view (drop l.assignment-index l.tree.assignments.items))
      ≡ map declaration_view l.fn.into.items ++ declared.assigned_declarations (module_view l.tree) l.first (map assignment_view l.tree.assignments.items);
  counted : l.id ≡ l.first + l.assignment-index;
  few : l.id ≤ vec_len l.into;
  numbered : (ms : List WrittenModule) → HasNumber ms (Some l.home) → All (IsNumbered ms) l.fn.into.items → All (IsNumbered ms) l.into.items;
}
