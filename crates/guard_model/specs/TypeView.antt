-- The abstract type of a type of the code.
use Rattle.std.specs.Arc.{arc_value, arc_slice_items, arc_str_bytes}
use Rattle.std.specs.Global.{Global}
use Rattle.std.specs.declared.sync.Arc.{Arc}
use Rattle.std.specs.Prelude.{ℕ, List, [], ◌∷◌, Option, Some, None}
use Rattle.guard_model.specs.AbstractType as abstract
use Rattle.guard_model.specs.AbstractType.{AbstractType, AbstractKind, AbstractPresence, Components, Constraint, Constraints, Element, Parts}
use Rattle.guard_model.specs.ValueView.{value_view}
use Rattle.guard_model.specs.declared.ty.Kind.TheFolds.{fold-Ty, fold-Kind, fold-Comp, fold-Cons, fold-Rule, fold-Part}
use Rattle.guard_model.specs.declared.ty.Kind.TheOpen.{Kind-F, Rule-F, Comp-F, Cons-F, Part-F, Ty-F}
use Rattle.guard_model.specs.declared.ty.Ty.{Ty}
use Rattle.guard_model.specs.declared.ty.Kind.{Kind}
use Rattle.guard_model.specs.declared.ty.Comp.{Comp}
use Rattle.guard_model.specs.declared.ty.Cons.{Cons}
use Rattle.guard_model.specs.declared.ty.Rule.{Rule}
use Rattle.guard_model.specs.declared.ty.Part.{Part}
pub use Rattle.guard_model.specs.NamedLists.{named_view}
use Rattle.guard_model.specs.declared.ty.Presence.{Presence}
use Rattle.guard_model.specs.declared.ty.Presence.TheVariants as presence
use Rattle.guard_model.specs.declared.ty.Word.{Word}
use Rattle.guard_model.specs.declared.site.Site.{Site}

pub record OneComponent : Type 0 where
  pub name : List ℕ
  pub ty : AbstractType
  pub presence : AbstractPresence

pub record OnePart : Type 0 where
  pub site : Site
  pub place : ℕ
  pub within : Option Constraint
  pub word : Option Word

abbrev pub presence_view : Presence → AbstractPresence
presence_view presence.Mandatory = abstract.mandatory
presence_view presence.Optional = abstract.optional
presence_view presence.Pending = abstract.pending
presence_view (presence.Default v) = abstract.default (value_view (arc_value v))

abbrev pub components_of : List OneComponent → Components
components_of [] = abstract.no_components
components_of (c ∷ cs) = abstract.component c.name c.ty c.presence (components_of cs)

abbrev pub constraints_of : List Constraint → Constraints
constraints_of [] = abstract.no_constraints
constraints_of (c ∷ cs) = abstract.constraint c (constraints_of cs)

abbrev pub part_before : Site → ℕ → Option Constraint → Option Word → Parts → Parts
part_before site place None word rest = abstract.part site place word rest
part_before site place (Some c) word rest = abstract.part_within site place c word rest

abbrev pub parts_of : List OnePart → Parts
parts_of [] = abstract.no_parts
parts_of (p ∷ ps) = part_before p.site p.place p.within p.word (parts_of ps)

-- The steps make one level of a kind, a rule, a component and so on abstract, where the parts are abstract already.
abbrev pub kind_step : Kind-F AbstractKind Element OneComponent Constraint OnePart AbstractType → AbstractKind
kind_step Kind-F.Bool = abstract.boolean
kind_step (Kind-F.Int ns) = abstract.integer (arc_value ns)
kind_step (Kind-F.Bits ns) = abstract.bit_string (arc_value ns)
kind_step Kind-F.Octets = abstract.octet_string
kind_step Kind-F.Null = abstract.null
kind_step Kind-F.Oid = abstract.object_identifier
kind_step (Kind-F.Enumerated ns) = abstract.enumerated (arc_value ns)
kind_step (Kind-F.Chars k) = abstract.characters k
kind_step (Kind-F.Sequence cs) = abstract.sequence (components_of cs.items)
kind_step (Kind-F.Set cs) = abstract.set (components_of cs.items)
kind_step (Kind-F.Choice cs) = abstract.choice (components_of cs.items)
kind_step (Kind-F.SequenceOf t) = abstract.sequence_of t.value
kind_step (Kind-F.SetOf t) = abstract.set_of t.value

abbrev pub rule_step : Rule-F AbstractKind Element OneComponent Constraint OnePart AbstractType → Element
rule_step (Rule-F.One v) = abstract.single_value (value_view (arc_value v))
rule_step (Rule-F.Inside t) = abstract.contained_subtype (arc_value t)
rule_step (Rule-F.Range low high) = abstract.range low high
rule_step (Rule-F.Size c) = abstract.size (arc_value c)
rule_step (Rule-F.Alphabet ranges) = abstract.permitted_alphabet (arc_slice_items ranges)
rule_step (Rule-F.Each c) = abstract.with_component (arc_value c)
rule_step (Rule-F.Parts partial ps) = abstract.with_components partial (parts_of (arc_slice_items ps))
rule_step (Rule-F.Any cs) = abstract.union (constraints_of (arc_slice_items cs))
rule_step (Rule-F.Both cs) = abstract.intersection (constraints_of (arc_slice_items cs))
rule_step (Rule-F.Minus a b) = abstract.except (arc_value a) (arc_value b)
rule_step (Rule-F.Other c) = abstract.all_except (arc_value c)

abbrev pub comp_step : Comp-F AbstractKind Element OneComponent Constraint OnePart AbstractType → OneComponent
comp_step c = record { name = arc_str_bytes c.name; ty = c.ty; presence = presence_view c.presence }

abbrev pub cons_step : Cons-F AbstractKind Element OneComponent Constraint OnePart AbstractType → Constraint
cons_step c = abstract.at c.site c.rule

abbrev pub part_step : Part-F AbstractKind Element OneComponent Constraint OnePart AbstractType → OnePart
part_step p = record { site = p.site; place = p.at; within = p.cons; word = p.word }

abbrev pub ty_step : Ty-F AbstractKind Element OneComponent Constraint OnePart AbstractType → AbstractType
ty_step t = abstract.type_of t.tags.items t.kind (constraints_of t.cons.items)

abbrev pub type_view : Ty → AbstractType
type_view =
    fold-Ty AbstractKind Element OneComponent Constraint OnePart AbstractType
    kind_step rule_step comp_step cons_step part_step ty_step

-- of a type that is shared
abbrev pub shared_type_view : Arc Ty Global → AbstractType
shared_type_view t = type_view (arc_value t)

abbrev pub kind_view : Kind → AbstractKind
kind_view =
    fold-Kind AbstractKind Element OneComponent Constraint OnePart AbstractType
    kind_step rule_step comp_step cons_step part_step ty_step

abbrev pub component_view : Comp → OneComponent
component_view =
    fold-Comp AbstractKind Element OneComponent Constraint OnePart AbstractType
    kind_step rule_step comp_step cons_step part_step ty_step

abbrev pub constraint_view : Cons → Constraint
constraint_view =
    fold-Cons AbstractKind Element OneComponent Constraint OnePart AbstractType
    kind_step rule_step comp_step cons_step part_step ty_step

abbrev pub element_view : Rule → Element
element_view =
    fold-Rule AbstractKind Element OneComponent Constraint OnePart AbstractType
    kind_step rule_step comp_step cons_step part_step ty_step

abbrev pub part_view : Part → OnePart
part_view =
    fold-Part AbstractKind Element OneComponent Constraint OnePart AbstractType
    kind_step rule_step comp_step cons_step part_step ty_step
