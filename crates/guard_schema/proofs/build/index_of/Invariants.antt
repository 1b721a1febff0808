use Rattle.std.proofs.Common.{◌≡◌, ℕ, List, ◌++◌, map, length, drop}
use Rattle.guard_names.specs.Declarations.{definitions}
use Rattle.guard_names.specs.NamesView.{order_of}
use Rattle.guard_syntax.specs.ModuleViews.{module_view}
use Rattle.guard_schema.specs.Entries.{entries_from, first_named}
use Rattle.guard_schema.specs.Views.{entry_view, found_in, type_place}
use Rattle.guard_schema.proofs.build.index_of.Given as goal

abbrev pub invariant-loop-module : goal.invariant-loop-module
invariant-loop-module l = record {
  -- with those of the modules that are left they are all
  gathered :
      map entry_view l.all.items ++ entries_from (type_place (order_of l.names) l.values) (length l.all.items)
      (definitions (map module_view (drop l.module-index l.modules)))
      ≡ entries_from (type_place (order_of l.names) l.values) 0 (definitions (map module_view l.modules));
  found : (home name : List ℕ) → found_in l.index home name ≡ first_named home name (map entry_view l.all.items);
}
