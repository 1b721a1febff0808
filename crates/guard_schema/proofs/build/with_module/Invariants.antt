use Rattle.std.proofs.Common.{◌≡◌, ◌++◌, map, length}
use Rattle.guard_names.specs.Declarations.{defined_in}
use Rattle.guard_names.specs.NamesView.{order_of}
use Rattle.guard_syntax.specs.ModuleViews.{module_view}
use Rattle.guard_schema.specs.Entries.{entries_from}
use Rattle.guard_schema.specs.Views.{entry_view, type_place}
use Rattle.guard_schema.proofs.ByNames.Definitions.{defined_after}
use Rattle.guard_schema.proofs.build.with_module.Given as goal

-- with those of the assignments that are left they are all of the module, after those before it
abbrev pub invariant-loop-assignment : goal.invariant-loop-assignment
invariant-loop-assignment l =
    map entry_view l.all.items ++ entries_from (type_place (order_of l.names) l.values) (length l.all.items)
    (defined_after l.tree l.assignment-index)
    ≡ map entry_view l.fn.before.items ++ entries_from (type_place (order_of l.names) l.values)
    (length l.fn.before.items) (defined_in (module_view l.tree))
