use Rattle.std.proofs.Common.{◌∙◌, ap}
use Rattle.std.specs.Arc.{arc_value}
use Rattle.std.specs.Prelude.{option_map, not}
use Rattle.std.proofs.lemmas.Result.{err_from_is_err_and}
use Rattle.guard_model.specs.TypeView.{presence_view}
use Rattle.guard_model.specs.declared.ty.Kind.TheViews.{out-Comp}
use Rattle.guard_model.specs.declared.site.Step.TheVariants.{Component}
use Rattle.guard_der.specs.Breach.{below}
use Rattle.guard_der.specs.Reading.{missing_at, completed}
use Rattle.guard_model.specs.ValueView.{fields_view}
use Rattle.guard_der.proofs.Functions.SetFields.{put_settles, kept_settles, settles_badly, all_settled, is_empty}
use Rattle.guard_der.proofs.decoding.set.completed.Goals as goal
use Rattle.guard_der.proofs.decoding.set.completed.Goals.{then-is_none+in_ok-field+in_ok-new, else-is_none}
use Rattle.guard_model.proofs.Components.{left}

pub loop-index-preserved : goal.loop-index-preserved
loop-index-preserved c = elim c.if-is_none.branch [
  | then-is_none+in_ok-field+in_ok-new w ↦
      let named = w.below-missing.ensures ∙ ap (option_map (below (Component c.loop-index.index))) w.fault_at.ensures in
      let presence = presence_view (out-Comp c.index-comps-index.result).presence in
      let settles = is_empty presence (arc_value c.index.result.now) (missing_at c.loop-index.index c.args.at) ((rw c.deref.ensures at c.is_none.ensures) ∙ ap not w.if-is_none.true) ∙ w.in_ok-field.ensures _ (missing_at c.loop-index.index c.args.at) named in
      let p = put_settles c.args.comps.now c.loop-index.index c.index-comps-index.result c.loop-index.fields.items c.if-is_none.fields.items c.index.result.now w.in_ok-new.field-0 c.args.at
      (completed 0 (left c.args.comps.now 0) (fields_view c.args.fields.items) c.args.at) c.loop-index-test.true c.loop-index.invariant.count c.index-comps-index.is c.index.ensures
      (rw w.in_ok-new.ensures.ok settles) (ap (λ v. v.items) w.fields-is ∙ w.set_field.ensures) c.loop-index.invariant.so_far in
      record { so_far = p.0; count = p.1 }
  | else-is_none w ↦
      let kept = kept_settles c.args.comps.now c.loop-index.index c.index-comps-index.result c.loop-index.fields.items c.index.result.now c.args.at
      (completed 0 (left c.args.comps.now 0) (fields_view c.args.fields.items) c.args.at) c.loop-index-test.true c.loop-index.invariant.count c.index-comps-index.is c.index.ensures
      ((rw c.deref.ensures at c.is_none.ensures) ∙ ap not w.if-is_none.false) c.loop-index.invariant.so_far in
      rw w.fields-is (record { so_far = kept; count = c.loop-index.invariant.count })
]

pub returns-in_err-field : goal.returns-in_err-field
returns-in_err-field c =
    let p = err_from_is_err_and c.from_residual.result c.from_residual.ensures.1 in
    let named = c.below-missing.ensures ∙ ap (option_map (below (Component c.loop-index.index))) c.fault_at.ensures in
    let empty = (rw c.deref.ensures at c.is_none.ensures) ∙ ap not c.if-is_none.true in
    let presence = presence_view (out-Comp c.index-comps-index.result).presence in
    rw (p.1, p.2) (settles_badly _ c.args.comps.now c.loop-index.index c.index-comps-index.result c.loop-index.fields.items c.index.result.now c.args.at
    (completed 0 (left c.args.comps.now 0) (fields_view c.args.fields.items) c.args.at) c.loop-index-test.true c.loop-index.invariant.count c.index-comps-index.is c.index.ensures
    (rw (is_empty presence (arc_value c.index.result.now) (missing_at c.loop-index.index c.args.at) empty) (c.in_err-field.ensures _ (missing_at c.loop-index.index c.args.at) named)) c.loop-index.invariant.so_far)

pub returns : goal.returns
returns c =
    rw c.in_ok-from_vec.ensures (all_settled c.args.comps.now c.loop-index.index c.loop-index.fields.items c.args.at (completed 0 (left c.args.comps.now 0) (fields_view c.args.fields.items) c.args.at) c.loop-index-test.false c.loop-index.invariant.count c.loop-index.invariant.so_far)
