-- Which trees of the definitions the code's trees are: types.
use Rattle.std.specs.Prelude.{map, Option, Some, None}
use Rattle.guard_syntax.specs.Trees.{WrittenNumber, WrittenTag, WrittenNamed, WrittenItem, WrittenOfConstraint, WrittenPresence, mandatory, optional, default, WrittenType, type_node, WrittenBase, plain, numbers, named_bits, enumerated, structure, choice, of_type, named_type, WrittenComponentForm, named, components_of_type, WrittenComponent, components_of, WrittenAlternative, alternatives_of}
use Rattle.guard_syntax.specs.Views.{number_view, value_view}
use Rattle.guard_syntax.specs.SetViews.{constraint_view}
use Rattle.guard_syntax.specs.declared.tree.NumberTree.{NumberTree}
use Rattle.guard_syntax.specs.declared.tree.TagTree.{TagTree}
use Rattle.guard_syntax.specs.declared.tree.NamedTree.{NamedTree}
use Rattle.guard_syntax.specs.declared.tree.ItemTree.{ItemTree}
use Rattle.guard_syntax.specs.declared.tree.OfConsTree.{OfConsTree}
use Rattle.guard_syntax.specs.declared.tree.PresenceTree.{PresenceTree}
use Rattle.guard_syntax.specs.declared.tree.PresenceTree.TheVariants as presence
use Rattle.guard_syntax.specs.declared.tree.BaseTree.TheFolds.{fold-BaseTree, fold-CompForm, fold-AlternativeTree, fold-CompTree, fold-TypeTree}
use Rattle.guard_syntax.specs.declared.tree.BaseTree.TheOpen.{BaseTree-F, CompForm-F, AlternativeTree-F, CompTree-F, TypeTree-F}
use Rattle.guard_syntax.specs.declared.tree.BaseTree.{BaseTree}
use Rattle.guard_syntax.specs.declared.tree.CompForm.{CompForm}
use Rattle.guard_syntax.specs.declared.tree.AlternativeTree.{AlternativeTree}
use Rattle.guard_syntax.specs.declared.tree.CompTree.{CompTree}
use Rattle.guard_syntax.specs.declared.tree.TypeTree.{TypeTree}

abbrev pub tag_view : TagTree → WrittenTag
tag_view t = record { site = t.site; class = t.class; number = t.number.now; mode = t.mode }

abbrev pub named_view : NamedTree → WrittenNamed
named_view n = record { site = n.site; name = n.name.now; number = number_view n.number }

abbrev pub item_number_view : Option NumberTree → Option WrittenNumber
item_number_view None = None
item_number_view (Some n) = Some (number_view n)

abbrev pub item_view : ItemTree → WrittenItem
item_view i = record { site = i.site; name = i.name.now; number = item_number_view i.number }

abbrev pub of_constraint_view : Option OfConsTree → Option WrittenOfConstraint
of_constraint_view None = None
of_constraint_view (Some c) = Some (record { site = c.site; size = c.size; constraint = constraint_view c.cons.value })

abbrev pub presence_view : PresenceTree → WrittenPresence
presence_view presence.Mandatory = mandatory
presence_view presence.Optional = optional
presence_view (presence.Default v) = default (value_view v.value)

-- one level of each, with the types inside already seen
abbrev pub base_step : BaseTree-F WrittenBase WrittenComponentForm WrittenAlternative WrittenComponent WrittenType
    → WrittenBase
base_step (BaseTree-F.Plain p) = plain p
base_step (BaseTree-F.Integer ns) = numbers (map named_view ns.items)
base_step (BaseTree-F.BitString bs) = named_bits (map named_view bs.items)
base_step (BaseTree-F.Enumerated is) = enumerated (map item_view is.items)
base_step (BaseTree-F.Structure k cs) = structure k (components_of cs.items)
base_step (BaseTree-F.Choice all) = choice (alternatives_of all.items)
base_step (BaseTree-F.Of k c ty) = of_type k (of_constraint_view c) ty.value
base_step (BaseTree-F.Reference name) = named_type name.site name.name.now

abbrev pub component_form_step : CompForm-F WrittenBase WrittenComponentForm WrittenAlternative WrittenComponent
    WrittenType → WrittenComponentForm
component_form_step (CompForm-F.Named name ty p) = named name.now ty.value (presence_view p)
component_form_step (CompForm-F.ComponentsOf ty) = components_of_type ty.value

abbrev pub alternative_step : AlternativeTree-F WrittenBase WrittenComponentForm WrittenAlternative WrittenComponent
    WrittenType → WrittenAlternative
alternative_step a = record { site = a.site; name = a.name.now; ty = a.ty.value }

abbrev pub component_step : CompTree-F WrittenBase WrittenComponentForm WrittenAlternative WrittenComponent WrittenType
    → WrittenComponent
component_step c = record { site = c.site; form = c.form }

abbrev pub type_step : TypeTree-F WrittenBase WrittenComponentForm WrittenAlternative WrittenComponent WrittenType
    → WrittenType
type_step t = type_node t.site (map tag_view t.tags.items) t.base (map constraint_view t.cons.items)

abbrev pub base_view : BaseTree → WrittenBase
base_view =
    fold-BaseTree WrittenBase WrittenComponentForm WrittenAlternative WrittenComponent WrittenType base_step
    component_form_step alternative_step component_step type_step

abbrev pub component_form_view : CompForm → WrittenComponentForm
component_form_view =
    fold-CompForm WrittenBase WrittenComponentForm WrittenAlternative WrittenComponent WrittenType base_step
    component_form_step alternative_step component_step type_step

abbrev pub alternative_view : AlternativeTree → WrittenAlternative
alternative_view =
    fold-AlternativeTree WrittenBase WrittenComponentForm WrittenAlternative WrittenComponent WrittenType base_step
    component_form_step alternative_step component_step type_step

abbrev pub component_view : CompTree → WrittenComponent
component_view =
    fold-CompTree WrittenBase WrittenComponentForm WrittenAlternative WrittenComponent WrittenType base_step
    component_form_step alternative_step component_step type_step

abbrev pub type_view : TypeTree → WrittenType
type_view =
    fold-TypeTree WrittenBase WrittenComponentForm WrittenAlternative WrittenComponent WrittenType base_step
    component_form_step alternative_step component_step type_step
