use Rattle.std.proofs.Common.{sym, inl, inr, refl}
use Rattle.std.proofs.lemmas.Result.{IfOk-weaker}
use Rattle.guard_der.specs.Views.{breach_view}
use Rattle.guard_model.specs.TypeView.{type_view}
use Rattle.guard_model.specs.ValueView.{value_view}
use Rattle.guard_policy.specs.PolicyView.{policy_view}
use Rattle.guard_policy.specs.Verdicts.{unknown_message, undecodable}
use Rattle.guard_policy.proofs.Applicable.{declared_sound}
use Rattle.guard_messages.proofs.values.show_json.Goals as goal

pub decode-requires : goal.decode-requires
decode-requires c =
    let p = policy_view c.args.policy.now in
    declared_sound p.messages p.rules c.args.route.now.message.now (type_view c.in-Some.ty.now) c.args.policy.now.kept.consistent (sym c.in-Some.ensures)

pub returns-in_default : goal.returns-in_default
returns-in_default c =
    IfOk-weaker c.without_value.result _ _ (λ a h. inr (unknown_message, inl (sym (rw c.in_default.is at c.declared.ensures), refl), h.0, h.1))
    c.without_value.ensures

pub returns-in-Ok : goal.returns-in-Ok
returns-in-Ok c =
    let t = type_view c.in-Some.ty.now in
    let v = value_view c.in-Ok.value in
    let d = c.in-Ok.ensures.decoded in
    IfOk-weaker c.json_answer.result _ _ (λ a h. inl (t, v, sym c.in-Some.ensures, d.0, d.1, h)) c.json_answer.ensures

pub returns-in-Err-Breach : goal.returns-in-Err-Breach
returns-in-Err-Breach c =
    let t = type_view c.in-Some.ty.now in
    let b = breach_view c.in-Err-Breach.breach in
    let is = rw c.in-Err-Breach.field-0-is at c.in-Err-Breach.ensures.breach in
    IfOk-weaker c.without_value-in-Err-Breach.result _ _ (λ a h. inr (undecodable b, inr (t, b, sym c.in-Some.ensures, is, refl), h.0, h.1))
    (rw c.in-Err-Breach.field-0-is at c.without_value-in-Err-Breach.ensures)
