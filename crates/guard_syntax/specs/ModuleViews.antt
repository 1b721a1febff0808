-- Which trees of the definitions the code's trees are: modules.
use Rattle.std.specs.Prelude.{List, Vec, map, Option, Some, None}
use Rattle.std.specs.Global.{Box}
use Rattle.guard_syntax.specs.Trees.{WrittenValue, WrittenIdentifierPart, bare_name, arc_part, WrittenSymbol, WrittenExports, all_exported, exported, WrittenImport, WrittenAssignment, WrittenModule}
use Rattle.guard_syntax.specs.Views.{arc_view, value_view}
use Rattle.guard_syntax.specs.TypeViews.{type_view}
use Rattle.guard_syntax.specs.declared.tree.PartTree.{PartTree}
use Rattle.guard_syntax.specs.declared.tree.PartTree.TheVariants as id_part
use Rattle.guard_syntax.specs.declared.tree.SymbolTree.{SymbolTree}
use Rattle.guard_syntax.specs.declared.tree.ExportsTree.{ExportsTree}
use Rattle.guard_syntax.specs.declared.tree.ExportsTree.TheVariants as exports
use Rattle.guard_syntax.specs.declared.tree.ImportTree.{ImportTree}
use Rattle.guard_syntax.specs.declared.tree.ValueTree.{ValueTree}
use Rattle.guard_syntax.specs.declared.tree.Assignment.{Assignment}
use Rattle.guard_syntax.specs.declared.tree.Module.{Module}
use Rattle.guard_syntax.specs.declared.module.Heading.{Heading}
use Rattle.guard_syntax.specs.inside.ReadModule.{WrittenHead}

abbrev pub identifier_part_view : PartTree → WrittenIdentifierPart
identifier_part_view (id_part.Name name) = bare_name name.now
identifier_part_view (id_part.Arc a) = arc_part (arc_view a)

abbrev pub symbol_view : SymbolTree → WrittenSymbol
symbol_view s = record { site = s.site; kind = s.kind; name = s.name.now }

abbrev pub exports_view : ExportsTree → WrittenExports
exports_view exports.All = all_exported
exports_view (exports.Symbols all) = exported (map symbol_view all.items)

abbrev pub perhaps_exports_view : Option ExportsTree → Option WrittenExports
perhaps_exports_view None = None
perhaps_exports_view (Some x) = Some (exports_view x)

abbrev pub import_view : ImportTree → WrittenImport
import_view i =
    record {
      site = i.site;
      symbols = map symbol_view i.symbols.items;
      module_site = i.module.site;
      module_name = i.module.name.now;
      identifier = map identifier_part_view i.identifier.items;
    }

abbrev pub imports_view : {Z : Type 0} → Option (Vec ImportTree Z) → Option (List WrittenImport)
imports_view None = None
imports_view (Some all) = Some (map import_view all.items)

abbrev pub perhaps_value_view : Option (Box ValueTree) → Option WrittenValue
perhaps_value_view None = None
perhaps_value_view (Some v) = Some (value_view v.value)

abbrev pub assignment_view : Assignment → WrittenAssignment
assignment_view a =
    record { site = a.site; name = a.name.now; ty = type_view a.ty.value; value = perhaps_value_view a.value }

abbrev pub module_view : Module → WrittenModule
module_view m =
    record {
      site = m.site;
      name = m.name.now;
      identifier = map identifier_part_view m.identifier.items;
      tag_default = m.tag_default;
      exports = perhaps_exports_view m.exports;
      imports = imports_view m.imports;
      assignments = map assignment_view m.assignments.items;
    }

abbrev pub head_view : Heading → WrittenHead
head_view h =
    record { name = h.name.now; identifier = map identifier_part_view h.identifier.items; tag_default = h.tag_default }
