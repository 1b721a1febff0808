-- What contracts see of the names of modules: the modules, and the order of their definitions.
use Rattle.std.specs.Prelude.{ℕ, List, map}
use Rattle.guard_syntax.specs.Trees.{WrittenModule}
use Rattle.guard_syntax.specs.ModuleViews.{module_view}
use Rattle.guard_names.specs.declared.names.Names.{Names}

abbrev pub modules_of : Names → List WrittenModule
modules_of n = map module_view n.modules.now

abbrev pub order_of : Names → List ℕ
order_of n = n.order.items
