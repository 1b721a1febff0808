-- One level of what an element of a constraint stands for.
use Rattle.std.proofs.Common.{◌≡◌, Bool, map, sym, ap, ◌∙◌}
use Rattle.std.specs.Arc.{arc_value, arc_slice_items}
use Rattle.std.specs.Global.{Global}
use Rattle.std.specs.declared.sync.Arc.{Arc}
use Rattle.std.specs.declared.sync.ArcSlice.{ArcSlice}
use Rattle.guard_model.specs.AbstractType as type
use Rattle.guard_model.specs.AbstractType.{AbstractType, AbstractKind, Constraint, Element}
use Rattle.guard_model.specs.TypeView.{OneComponent, OnePart, type_view, constraint_view, constraints_of, part_view, parts_of, element_view, kind_step, rule_step, comp_step, cons_step, part_step, ty_step}
use Rattle.guard_model.specs.ValueView.{value_view}
use Rattle.guard_model.specs.declared.ty.Cons.{Cons}
use Rattle.guard_model.specs.declared.ty.Kind.TheFolds.{fold-roll-Rule}
use Rattle.guard_model.specs.declared.ty.Kind.TheOpen.{Rule-F}
use Rattle.guard_model.specs.declared.ty.Limit.{Limit}
use Rattle.guard_model.specs.declared.ty.Part.{Part}
use Rattle.guard_model.specs.declared.ty.Rule.{Rule, One, Inside, Range, Size, Parts, Any, Both, Minus, Other}
use Rattle.guard_model.specs.declared.ty.Rule.TheVariants.{rolls-One, rolls-Inside, rolls-Range, rolls-Size, rolls-Parts, rolls-Any, rolls-Both, rolls-Minus, rolls-Other}
use Rattle.guard_model.specs.declared.ty.Ty.{Ty}
use Rattle.guard_model.specs.declared.value.Value.{Value}

pub view_one : (rule : Rule) (v : Arc Value Global) → rule ≡ One v → element_view rule ≡ type.single_value (value_view (arc_value v))
view_one rule v is = ap element_view is ∙ ap element_view (sym (rolls-One v)) ∙ fold-roll-Rule AbstractKind Element OneComponent Constraint OnePart AbstractType kind_step rule_step comp_step cons_step part_step ty_step (Rule-F.One v)

pub view_inside : (rule : Rule) (t : Arc Ty Global) → rule ≡ Inside t → element_view rule ≡ type.contained_subtype (type_view (arc_value t))
view_inside rule t is = ap element_view is ∙ ap element_view (sym (rolls-Inside t)) ∙ fold-roll-Rule AbstractKind Element OneComponent Constraint OnePart AbstractType kind_step rule_step comp_step cons_step part_step ty_step (Rule-F.Inside t)

pub view_range : (rule : Rule) (low high : Limit) → rule ≡ Range low high → element_view rule ≡ type.range low high
view_range rule low high is = ap element_view is ∙ ap element_view (sym (rolls-Range low high)) ∙ fold-roll-Rule AbstractKind Element OneComponent Constraint OnePart AbstractType kind_step rule_step comp_step cons_step part_step ty_step (Rule-F.Range low high)

pub view_size : (rule : Rule) (a : Arc Cons Global) → rule ≡ Size a → element_view rule ≡ type.size (constraint_view (arc_value a))
view_size rule a is = ap element_view is ∙ ap element_view (sym (rolls-Size a)) ∙ fold-roll-Rule AbstractKind Element OneComponent Constraint OnePart AbstractType kind_step rule_step comp_step cons_step part_step ty_step (Rule-F.Size a)

pub view_minus : (rule : Rule) (a b : Arc Cons Global) → rule ≡ Minus a b → element_view rule ≡ type.except (constraint_view (arc_value a)) (constraint_view (arc_value b))
view_minus rule a b is = ap element_view is ∙ ap element_view (sym (rolls-Minus a b)) ∙ fold-roll-Rule AbstractKind Element OneComponent Constraint OnePart AbstractType kind_step rule_step comp_step cons_step part_step ty_step (Rule-F.Minus a b)

pub view_other : (rule : Rule) (a : Arc Cons Global) → rule ≡ Other a → element_view rule ≡ type.all_except (constraint_view (arc_value a))
view_other rule a is = ap element_view is ∙ ap element_view (sym (rolls-Other a)) ∙ fold-roll-Rule AbstractKind Element OneComponent Constraint OnePart AbstractType kind_step rule_step comp_step cons_step part_step ty_step (Rule-F.Other a)

pub view_any : (rule : Rule) (cs : ArcSlice Cons Global) → rule ≡ Any cs → element_view rule ≡ type.union (constraints_of (map constraint_view (arc_slice_items cs)))
view_any rule cs is = ap element_view is ∙ ap element_view (sym (rolls-Any cs)) ∙ fold-roll-Rule AbstractKind Element OneComponent Constraint OnePart AbstractType kind_step rule_step comp_step cons_step part_step ty_step (Rule-F.Any cs)

pub view_both : (rule : Rule) (cs : ArcSlice Cons Global) → rule ≡ Both cs → element_view rule ≡ type.intersection (constraints_of (map constraint_view (arc_slice_items cs)))
view_both rule cs is = ap element_view is ∙ ap element_view (sym (rolls-Both cs)) ∙ fold-roll-Rule AbstractKind Element OneComponent Constraint OnePart AbstractType kind_step rule_step comp_step cons_step part_step ty_step (Rule-F.Both cs)

pub view_parts : (rule : Rule) (partial : Bool) (ps : ArcSlice Part Global) → rule ≡ Parts partial ps → element_view rule ≡ type.with_components partial (parts_of (map part_view (arc_slice_items ps)))
view_parts rule partial ps is = ap element_view is ∙ ap element_view (sym (rolls-Parts partial ps)) ∙ fold-roll-Rule AbstractKind Element OneComponent Constraint OnePart AbstractType kind_step rule_step comp_step cons_step part_step ty_step (Rule-F.Parts partial ps)
