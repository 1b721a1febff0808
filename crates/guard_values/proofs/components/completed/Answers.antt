use Rattle.std.proofs.Common.{◌∙◌, ap}
use Rattle.std.specs.Arc.{arc_value}
use Rattle.std.specs.Prelude.{not}
use Rattle.std.proofs.lemmas.Result.{err_from_is_err_and}
use Rattle.guard_model.specs.TypeView.{presence_view}
use Rattle.guard_model.specs.ValueView.{fields_view}
use Rattle.guard_model.specs.declared.ty.Kind.TheViews.{out-Comp}
use Rattle.guard_values.specs.inside.Reading.{completed}
use Rattle.guard_values.specs.Views.{named}
use Rattle.guard_values.proofs.Braces.CodeFields.{put_settles, kept_settles, settles_badly, all_settled, is_empty}
use Rattle.guard_values.proofs.components.completed.Goals as goal
use Rattle.guard_values.proofs.components.completed.Goals.{then-is_none+in_ok-slot, else-is_none}
use Rattle.guard_model.proofs.Components.{left}

pub loop-index-preserved : goal.loop-index-preserved
loop-index-preserved c = elim c.if-is_none.branch [
  | then-is_none+in_ok-slot w ↦
      let presence = presence_view (out-Comp c.index-comps-index.result).presence in
      let settles = is_empty presence (arc_value c.index.result.now) c.args.site ((rw c.deref.ensures at c.is_none.ensures) ∙ ap not w.if-is_none.true) ∙ w.in_ok-slot.ensures in
      let p = put_settles c.args.comps.now c.loop-index.index c.index-comps-index.result c.loop-index.fields.items c.if-is_none.fields.items c.index.result.now w.in_ok-slot.slot c.args.site
      (completed c.args.site (left c.args.comps.now 0) (fields_view c.args.fields.items)) c.loop-index-test.true c.loop-index.invariant.count c.index-comps-index.is c.index.ensures
      settles (ap (λ v. v.items) w.fields-is ∙ w.set_field.ensures) c.loop-index.invariant.so_far in
      record { so_far = p.0; count = p.1 }
  | else-is_none w ↦
      let kept = kept_settles c.args.comps.now c.loop-index.index c.index-comps-index.result c.loop-index.fields.items c.index.result.now c.args.site
      (completed c.args.site (left c.args.comps.now 0) (fields_view c.args.fields.items)) c.loop-index-test.true c.loop-index.invariant.count c.index-comps-index.is c.index.ensures
      ((rw c.deref.ensures at c.is_none.ensures) ∙ ap not w.if-is_none.false) c.loop-index.invariant.so_far in
      rw w.fields-is (record { so_far = kept; count = c.loop-index.invariant.count })
]

pub returns-in_err-slot : goal.returns-in_err-slot
returns-in_err-slot c =
    let p = err_from_is_err_and c.from_residual.result c.from_residual.ensures.1 in
    let empty = (rw c.deref.ensures at c.is_none.ensures) ∙ ap not c.if-is_none.true in
    let presence = presence_view (out-Comp c.index-comps-index.result).presence in
    rw (p.1, p.2) (settles_badly (named c.in_err-slot.field-0.0) c.args.comps.now c.loop-index.index c.index-comps-index.result c.loop-index.fields.items c.index.result.now c.args.site
    (completed c.args.site (left c.args.comps.now 0) (fields_view c.args.fields.items)) c.loop-index-test.true c.loop-index.invariant.count c.index-comps-index.is c.index.ensures
    (rw (is_empty presence (arc_value c.index.result.now) c.args.site empty) c.in_err-slot.ensures) c.loop-index.invariant.so_far)

pub returns : goal.returns
returns c =
    all_settled c.args.comps.now c.loop-index.index c.loop-index.fields.items c.args.site (completed c.args.site (left c.args.comps.now 0) (fields_view c.args.fields.items)) c.loop-index-test.false c.loop-index.invariant.count c.loop-index.invariant.so_far
