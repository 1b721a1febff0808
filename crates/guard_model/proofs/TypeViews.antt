-- One level of the abstract type of a type.
use Rattle.std.proofs.Common.{◌≡◌, sym, ap, ◌∙◌, map}
use Rattle.std.specs.Arc.{arc_str_bytes}
use Rattle.std.specs.Global.{Vec, Box}
use Rattle.guard_model.specs.AbstractType as type
use Rattle.guard_model.specs.AbstractType.{AbstractType, AbstractKind, Constraint, Element, type_of}
use Rattle.guard_model.specs.TypeView.{OneComponent, OnePart, type_view, kind_view, component_view, constraint_view, presence_view, components_of, constraints_of, kind_step, rule_step, comp_step, cons_step, part_step, ty_step}
use Rattle.guard_model.specs.declared.ty.Comp.{Comp}
use Rattle.guard_model.specs.declared.ty.Kind.{Sequence, Set, Choice, SequenceOf, SetOf}
use Rattle.guard_model.specs.declared.ty.Kind.TheFolds.{fold_out-Ty, fold_out-Comp, fold-roll-Kind}
use Rattle.guard_model.specs.declared.ty.Kind.TheOpen.{Kind-F}
use Rattle.guard_model.specs.declared.ty.Kind.TheVariants.{rolls-Sequence, rolls-Set, rolls-Choice, rolls-SequenceOf, rolls-SetOf}
use Rattle.guard_model.specs.declared.ty.Kind.TheViews.{out-Ty, out-Comp}
use Rattle.guard_model.specs.declared.ty.Ty.{Ty}

pub type_view_is : (ty : Ty) → type_view ty ≡ type_of (out-Ty ty).tags.items (kind_view (out-Ty ty).kind) (constraints_of (map constraint_view (out-Ty ty).cons.items))
type_view_is ty = fold_out-Ty AbstractKind Element OneComponent Constraint OnePart AbstractType kind_step rule_step comp_step cons_step part_step ty_step ty

-- a component, with its type's view still to be computed
abbrev pub opened : Comp → OneComponent
opened comp = record { name = arc_str_bytes (out-Comp comp).name; ty = type_view (out-Comp comp).ty; presence = presence_view (out-Comp comp).presence }

pub component_view_is : (comp : Comp) → component_view comp ≡ opened comp
component_view_is comp = fold_out-Comp AbstractKind Element OneComponent Constraint OnePart AbstractType kind_step rule_step comp_step cons_step part_step ty_step comp

-- ---- kinds with something inside

pub kind_view_sequence : (comps : Vec Comp) → kind_view (Sequence comps) ≡ type.sequence (components_of (map component_view comps.items))
kind_view_sequence comps = ap kind_view (sym (rolls-Sequence comps)) ∙ fold-roll-Kind AbstractKind Element OneComponent Constraint OnePart AbstractType kind_step rule_step comp_step cons_step part_step ty_step (Kind-F.Sequence comps)

pub kind_view_set : (comps : Vec Comp) → kind_view (Set comps) ≡ type.set (components_of (map component_view comps.items))
kind_view_set comps = ap kind_view (sym (rolls-Set comps)) ∙ fold-roll-Kind AbstractKind Element OneComponent Constraint OnePart AbstractType kind_step rule_step comp_step cons_step part_step ty_step (Kind-F.Set comps)

pub kind_view_choice : (comps : Vec Comp) → kind_view (Choice comps) ≡ type.choice (components_of (map component_view comps.items))
kind_view_choice comps = ap kind_view (sym (rolls-Choice comps)) ∙ fold-roll-Kind AbstractKind Element OneComponent Constraint OnePart AbstractType kind_step rule_step comp_step cons_step part_step ty_step (Kind-F.Choice comps)

pub kind_view_sequence_of : (t : Box Ty) → kind_view (SequenceOf t) ≡ type.sequence_of (type_view t.value)
kind_view_sequence_of t = ap kind_view (sym (rolls-SequenceOf t)) ∙ fold-roll-Kind AbstractKind Element OneComponent Constraint OnePart AbstractType kind_step rule_step comp_step cons_step part_step ty_step (Kind-F.SequenceOf t)

pub kind_view_set_of : (t : Box Ty) → kind_view (SetOf t) ≡ type.set_of (type_view t.value)
kind_view_set_of t = ap kind_view (sym (rolls-SetOf t)) ∙ fold-roll-Kind AbstractKind Element OneComponent Constraint OnePart AbstractType kind_step rule_step comp_step cons_step part_step ty_step (Kind-F.SetOf t)
