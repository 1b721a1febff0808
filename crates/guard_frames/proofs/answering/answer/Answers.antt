use Rattle.std.proofs.Common.{sym, refl, subst}
use Rattle.guard_frames.specs.Bodies.{body_view}
use Rattle.guard_frames.specs.Outcomes.{going, staying}
use Rattle.guard_frames.specs.Guarding.{Adds}
use Rattle.guard_frames.specs.Answering.{pass_line}
use Rattle.guard_frames.specs.inside.Judged.{report_line, ReportEnds}
use Rattle.guard_frames.proofs.LineOfFrame.{body_that_goes, passes_by, stays_by}
use Rattle.guard_frames.proofs.Recalled.{nothing_recalled}
use Rattle.guard_frames.proofs.NameSizes.{name_short}
use Rattle.guard_frames.proofs.Reporting.{not_without}
use Rattle.guard_frames.proofs.Steps.{on_err_of}
use Rattle.guard_frames.proofs.answering.answer.Goals as goal

pub unreachable-requires : goal.unreachable-requires
unreachable-requires g c =
    let go = c.in-Goes.ensures.decided.0 in
    not_without c.frame_of-frame.result.body.now go.body go.is c.in_default.ensures

pub put_pass-requires-clause-sender : goal.put_pass-requires-clause-sender
put_pass-requires-clause-sender g c =
    name_short c.in-Some.body.sender.now
    (body_that_goes (g.D.Decide.decides c.args.policy.now) c.frame_of-frame.result.body.now (body_view c.in-Some.body) c.in-Goes.ensures.decided.0 c.in-Some.ensures).names.sender

pub put_pass-requires-clause-receiver : goal.put_pass-requires-clause-receiver
put_pass-requires-clause-receiver g c =
    name_short c.in-Some.body.receiver.now
    (body_that_goes (g.D.Decide.decides c.args.policy.now) c.frame_of-frame.result.body.now (body_view c.in-Some.body) c.in-Goes.ensures.decided.0 c.in-Some.ensures).names.receiver

pub put_pass-requires-clause-name : goal.put_pass-requires-clause-name
put_pass-requires-clause-name g c =
    name_short c.in-Some.body.name.now
    (body_that_goes (g.D.Decide.decides c.args.policy.now) c.frame_of-frame.result.body.now (body_view c.in-Some.body) c.in-Goes.ensures.decided.0 c.in-Some.ensures).names.name

pub returns-in_ok-put_pass-in-Goes-clause-all : goal.returns-in_ok-put_pass-in-Goes-clause-all
returns-in_ok-put_pass-in-Goes-clause-all g c =
    let d = g.D.Decide.decides c.args.policy.now in
    let b = body_view c.in-Some.body in (
      pass_line c.args.number b,
      passes_by d c.args.number c.args.frame.now c.frame_of-frame.result.body.now b c.frame_of-frame.ensures.body c.in-Goes.ensures.decided.0 c.in-Some.ensures,
      c.in_ok-put_pass-in-Goes.ensures.all,
    )

pub returns-in_err-put_pass-in-Goes-clause-part : goal.returns-in_err-put_pass-in-Goes-clause-part
returns-in_err-put_pass-in-Goes-clause-part g c =
    let d = g.D.Decide.decides c.args.policy.now in
    let b = body_view c.in-Some.body in
    let p = c.in_err-put_pass-in-Goes.ensures.part in
    on_err_of c.from_residual.result (
      going c.args.frame.now,
      pass_line c.args.number b,
      p.0,
      refl,
      passes_by d c.args.number c.args.frame.now c.frame_of-frame.result.body.now b c.frame_of-frame.ensures.body c.in-Goes.ensures.decided.0 c.in-Some.ensures,
      p.1,
      p.2,
    )

pub put_report-requires : goal.put_report-requires
put_report-requires g c = subst (ReportEnds c.report_on-why.result) (sym c.as_slice.ensures.value) c.report_on-why.ensures.ends

pub returns-in_err-put_report-in-Stays-clause-part : goal.returns-in_err-put_report-in-Stays-clause-part
returns-in_err-put_report-in-Stays-clause-part g c =
    let d = g.D.Decide.decides c.args.policy.now in
    let n = c.args.number in
    let line = report_line n c.report_on-why.result c.as_slice.result.now in
    let adds : Adds d n (staying c.args.frame.now) line =
    subst (λ s. Adds d n (staying c.args.frame.now) (report_line n c.report_on-why.result s)) (sym c.as_slice.ensures.value)
    (subst (λ f. Adds d n (staying f) (report_line n c.report_on-why.result c.report_on-why.new.line.items)) c.frame_of-frame.ensures.whole c.report_on-why.ensures.adds) in
    let p = c.in_err-put_report-in-Stays.ensures.part in
    on_err_of c.from_residual-in_err-put_report-in-Stays.result
    (staying c.args.frame.now, line, p.0, refl, stays_by d n c.args.frame.now line adds, p.1, p.2)

pub returns-in_ok-put_report-in-Stays-clause-all : goal.returns-in_ok-put_report-in-Stays-clause-all
returns-in_ok-put_report-in-Stays-clause-all g c =
    let d = g.D.Decide.decides c.args.policy.now in
    let n = c.args.number in
    let line = report_line n c.report_on-why.result c.as_slice.result.now in
    let adds : Adds d n (staying c.args.frame.now) line =
    subst (λ s. Adds d n (staying c.args.frame.now) (report_line n c.report_on-why.result s)) (sym c.as_slice.ensures.value)
    (subst (λ f. Adds d n (staying f) (report_line n c.report_on-why.result c.report_on-why.new.line.items)) c.frame_of-frame.ensures.whole c.report_on-why.ensures.adds) in
    (line, stays_by d n c.args.frame.now line adds, c.in_ok-put_report-in-Stays.ensures.all)

pub goes-requires : goal.goes-requires
goes-requires g c = nothing_recalled _ _ _ c.none.result c.none.ensures
