use Rattle.std.proofs.Common.{◌≡◌, ℤ, List, ◌&&◌, sym, ap, ◌∙◌}
use Rattle.std.specs.Prelude.{int_le}
use Rattle.std.proofs.lemmas.Int.{to_z-of_z}
use mir.Syntax.{w128}
use mir.Val.{to_z, of_z}
use Rattle.guard_integers.specs.Integers as integers
use Rattle.guard_integers.specs.Integers.{Integers, some_holds}
use Rattle.guard_model.specs.AbstractValue as abstract
use Rattle.guard_model.specs.Limits.{fits_128_bits}
use Rattle.guard_model.specs.TypeView.{kind_view, constraint_view}
use Rattle.guard_model.specs.AbstractValue.{AbstractValue}
use Rattle.guard_model.specs.ValueView.{value_view, value_step}
use Rattle.guard_model.specs.declared.ty.Cons.{Cons}
use Rattle.guard_model.specs.declared.ty.Kind.{Kind}
use Rattle.guard_model.specs.declared.value.Value.TheFolds.{fold-roll-Value}
use Rattle.guard_model.specs.declared.value.Value.TheOpen.{Value-F}
use Rattle.guard_model.specs.declared.value.Value.TheVariants as variant
use Rattle.guard_model.specs.declared.value.Value.TheVariants.{rolls-Enumerated}
use Rattle.guard_eval.specs.Member.{holds}
use Rattle.guard_tables.proofs.ItemTests.{one_added, none_added}
use Rattle.guard_tables.proofs.conditions_at_node.push_item.Goals as goal

-- what is asked of the value of an item
asked : (constraint : Cons) (own : Kind) (z : ℤ) → holds (constraint_view constraint) (kind_view own) (value_view (variant.Enumerated z)) ≡ holds (constraint_view constraint) (kind_view own) (abstract.enumerated z)
asked constraint own z = ap (holds (constraint_view constraint) (kind_view own)) (ap value_view (sym (rolls-Enumerated z)) ∙ fold-roll-Value AbstractValue value_step (Value-F.Enumerated z))

pub returns-in_ok-push : goal.returns-in_ok-push
returns-in_ok-push c = λ z.
    let n = c.args.number in
    let allowed = λ (z : ℤ). holds (constraint_view c.args.constraint.now) (kind_view c.args.own.now)
    (abstract.enumerated z) in
    let is : integers.holds c.in_ok-range.field-0 z ≡ (fits_128_bits z && (int_le n z && int_le z n)) =
    c.in_ok-range.ensures z ∙ ap (λ (m : ℤ). fits_128_bits z && (int_le m z && int_le z m)) (to_z-of_z w128 n c.ranges.number) in
    ap (λ (sets : List Integers). some_holds sets z) c.in_ok-push.ensures.items
    ∙ one_added c.args.sets.now.items c.in_ok-range.field-0 n z allowed
    (ap allowed (sym (to_z-of_z w128 n c.ranges.number)) ∙ sym (asked c.args.constraint.now c.args.own.now (to_z w128 (of_z w128 n))) ∙ sym c.is_met.ensures ∙ c.if-is_met.true) is

pub returns-else-is_met : goal.returns-else-is_met
returns-else-is_met c = λ z.
    let n = c.args.number in
    let allowed = λ (z : ℤ). holds (constraint_view c.args.constraint.now) (kind_view c.args.own.now)
    (abstract.enumerated z) in
    none_added c.args.sets.now.items n z allowed
    (ap allowed (sym (to_z-of_z w128 n c.ranges.number)) ∙ sym (asked c.args.constraint.now c.args.own.now (to_z w128 (of_z w128 n))) ∙ sym c.is_met.ensures ∙ c.if-is_met.false)
