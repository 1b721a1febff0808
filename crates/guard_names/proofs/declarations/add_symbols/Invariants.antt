use Rattle.std.proofs.Common.{◌≡◌, ◌≤◌, ◌++◌, All, List, Some, map, drop, vec_len}
use Rattle.guard_syntax.specs.Trees.{WrittenModule}
use Rattle.guard_syntax.specs.ModuleViews.{symbol_view}
use Rattle.guard_names.specs.Declarations as declared
use Rattle.guard_names.specs.inside.DeclarationViews.{declaration_view}
use Rattle.guard_names.specs.TableViews.{module_number}
use Rattle.guard_names.specs.inside.Numbered.{HasNumber, IsNumbered}
use Rattle.guard_names.proofs.declarations.add_symbols.Given as goal

abbrev pub invariant-loop-symbol : goal.invariant-loop-symbol
invariant-loop-symbol l = record {
  gathered :
      map declaration_view l.into.items ++ declared.symbol_declarations l.home.name.now l.from (map symbol_view (drop l.symbol-index l.symbols))
      ≡ map declaration_view l.fn.into.items ++ declared.symbol_declarations l.home.name.now l.from (map symbol_view l.symbols);
  more : vec_len l.fn.into ≤ vec_len l.into;
  numbered : (ms : List WrittenModule) → HasNumber ms (Some l.home) → l.number ≡ module_number ms l.from → All (IsNumbered ms) l.fn.into.items → All (IsNumbered ms) l.into.items;
}
