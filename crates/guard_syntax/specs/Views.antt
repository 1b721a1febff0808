-- Which trees of the definitions the code's trees are: numbers and values.
use Rattle.std.specs.Prelude.{ℕ, List, map, Option, Some, None}
use Rattle.guard_model.specs.declared.site.Site.{Site}
use Rattle.guard_syntax.specs.Trees.{WrittenNumber, WrittenArc, WrittenValue, value_node, WrittenValueForm, boolean, null, integer, text, reference, chosen, list, arcs, WrittenEntry, entries_of}
use Rattle.guard_syntax.specs.declared.tree.NumberTree.{NumberTree}
use Rattle.guard_syntax.specs.declared.tree.ArcTree.{ArcTree}
use Rattle.guard_syntax.specs.declared.tree.EntryTree.TheFolds.{fold-EntryTree, fold-ValueForm, fold-ValueTree}
use Rattle.guard_syntax.specs.declared.tree.EntryTree.TheOpen.{EntryTree-F, ValueForm-F, ValueTree-F}
use Rattle.guard_syntax.specs.declared.tree.ValueForm.{ValueForm}
use Rattle.guard_syntax.specs.declared.tree.EntryTree.{EntryTree}
use Rattle.guard_syntax.specs.declared.tree.ValueTree.{ValueTree}
use Rattle.std.specs.Borrow.{Bor}

-- the name, where there is one
abbrev pub name_view : Option (Bor (List ℕ)) → Option (List ℕ)
name_view None = None
name_view (Some name) = Some name.now

abbrev pub number_view : NumberTree → WrittenNumber
number_view n = record { site = n.site; minus = n.minus; digits = n.digits.now }

abbrev pub arc_view : ArcTree → WrittenArc
arc_view a = record { site = a.site; name = name_view a.name; number = a.number.now }

-- where a value begins
abbrev pub site_of_value : WrittenValue → Site
site_of_value (value_node site form) = site

-- one level of each, with the values inside already seen
abbrev pub entry_step : EntryTree-F WrittenEntry WrittenValueForm WrittenValue → WrittenEntry
entry_step (EntryTree-F.Alone v) = record { site = site_of_value v; name = None; value = v }
entry_step (EntryTree-F.Named name v) = record { site = name.site; name = Some name.name.now; value = v.value }

abbrev pub value_form_step : ValueForm-F WrittenEntry WrittenValueForm WrittenValue → WrittenValueForm
value_form_step (ValueForm-F.Boolean b) = boolean b
value_form_step ValueForm-F.Null = null
value_form_step (ValueForm-F.Integer minus site digits) =
    integer (record { site = site; minus = minus; digits = digits.now })
value_form_step (ValueForm-F.Text kind spelling) = text kind spelling.now
value_form_step (ValueForm-F.Reference name) = reference name.now
value_form_step (ValueForm-F.Chosen name v) = chosen name.now v.value
value_form_step (ValueForm-F.List es) = list (entries_of es.items)
value_form_step (ValueForm-F.Arcs all) = arcs (map arc_view all.items)

abbrev pub value_step : ValueTree-F WrittenEntry WrittenValueForm WrittenValue → WrittenValue
value_step v = value_node v.site v.form

abbrev pub value_view : ValueTree → WrittenValue
value_view = fold-ValueTree WrittenEntry WrittenValueForm WrittenValue entry_step value_form_step value_step

abbrev pub value_form_view : ValueForm → WrittenValueForm
value_form_view = fold-ValueForm WrittenEntry WrittenValueForm WrittenValue entry_step value_form_step value_step

abbrev pub entry_view : EntryTree → WrittenEntry
entry_view = fold-EntryTree WrittenEntry WrittenValueForm WrittenValue entry_step value_form_step value_step
