use Rattle.std.proofs.Common.{sym, inl, inr}
use Rattle.std.proofs.lemmas.Result.{IfOk-weaker}
use Rattle.guard_model.specs.TypeView.{type_view}
use Rattle.guard_policy.specs.PolicyView.{policy_view}
use Rattle.guard_policy.proofs.Applicable.{declared_sound}
use Rattle.guard_report.specs.Shown.{shown_view}
use Rattle.guard_messages.proofs.ShownAnswers.{shown_is}
use Rattle.guard_messages.proofs.values.show_octets.Goals as goal

pub law_one_answer-requires : goal.law_one_answer-requires
law_one_answer-requires c =
    let p = policy_view c.args.policy.now in
    declared_sound p.messages p.rules c.args.message.now (type_view c.in-Some.ty.now) c.args.policy.now.kept.consistent (sym c.in-Some.ensures)

pub shown_text-requires : goal.shown_text-requires
shown_text-requires c =
    let p = policy_view c.args.policy.now in
    declared_sound p.messages p.rules c.args.message.now (type_view c.in-Some.ty.now) c.args.policy.now.kept.consistent (sym c.in-Some.ensures)

pub lines_of-requires : goal.lines_of-requires
lines_of-requires c =
    let p = policy_view c.args.policy.now in
    declared_sound p.messages p.rules c.args.message.now (type_view c.in-Some.ty.now) c.args.policy.now.kept.consistent (sym c.in-Some.ensures)

pub returns-in_default : goal.returns-in_default
returns-in_default c =
    IfOk-weaker c.ended.result _ _ (λ a h. inl (sym (rw c.in_default.is at c.declared.ensures), rw c.new.ensures.items at h.0, h.1)) c.ended.ensures

pub returns : goal.returns
returns c =
    let t = type_view c.in-Some.ty.now in
    let shown = shown_view c.in_ok-shown.shown in
    let is = shown_is t c.args.octets.now shown c.law_one_answer.ensures.one c.in_ok-shown.ensures.of_value c.in_ok-shown.ensures.of_breach in
    IfOk-weaker c.answer_of.result _ _ (λ a h. inr (t, shown, c.in_ok-lines.lines.items, sym c.in-Some.ensures, is, c.in_ok-lines.ensures, h.0, h.1)) c.answer_of.ensures
