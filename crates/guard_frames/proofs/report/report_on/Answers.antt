use Rattle.std.proofs.Common.{subst}
use Rattle.guard_frames.specs.Bodies.{body_view}
use Rattle.guard_frames.specs.Outcomes.{IsKnown}
use Rattle.guard_frames.proofs.BodyDecisions.{message_within, header_first}
use Rattle.guard_frames.proofs.Reporting.{known_there, not_without, stays_by_body}
use Rattle.guard_frames.proofs.report.report_on.Goals as goal

pub unreachable-requires : goal.unreachable-requires
unreachable-requires g c =
    let octets = c.args.frame.now.body.now in
    let known = subst (IsKnown (g.D.Decide.decides c.args.policy.now) (g.D.Decide.reasons_of c.args.policy.now) octets) c.in-Named.is c.requires.known in
    not_without octets known.0 known.1 c.in_default.ensures

pub slice_bounds-header-count : goal.slice_bounds-header-count
slice_bounds-header-count g c = message_within c.args.frame.now.body.now (body_view c.in-Some.body) c.in-Some.ensures

pub report_of-requires-clause-header : goal.report_of-requires-clause-header
report_of-requires-clause-header g c = header_first c.args.frame.now.body.now (body_view c.in-Some.body) c.in-Some.ensures

pub report_of-requires-clause-names : goal.report_of-requires-clause-names
report_of-requires-clause-names g c =
    let k = known_there (g.D.Decide.decides c.args.policy.now) (g.D.Decide.reasons_of c.args.policy.now) c.args.frame.now.body.now c.args.known (body_view c.in-Some.body) c.in-Named.told
    c.in-Named.is c.requires.known c.in-Some.ensures in
    k.0.names

pub report_of-requires-clause-stays : goal.report_of-requires-clause-stays
report_of-requires-clause-stays g c =
    let k = known_there (g.D.Decide.decides c.args.policy.now) (g.D.Decide.reasons_of c.args.policy.now) c.args.frame.now.body.now c.args.known (body_view c.in-Some.body) c.in-Named.told
    c.in-Named.is c.requires.known c.in-Some.ensures in
    k.1

pub report_of-requires-clause-told : goal.report_of-requires-clause-told
report_of-requires-clause-told g c =
    let k = known_there (g.D.Decide.decides c.args.policy.now) (g.D.Decide.reasons_of c.args.policy.now) c.args.frame.now.body.now c.args.known (body_view c.in-Some.body) c.in-Named.told
    c.in-Named.is c.requires.known c.in-Some.ensures in
    k.2

pub returns-in-Some-clause-adds : goal.returns-in-Some-clause-adds
returns-in-Some-clause-adds g c =
    let k = known_there (g.D.Decide.decides c.args.policy.now) (g.D.Decide.reasons_of c.args.policy.now) c.args.frame.now.body.now c.args.known (body_view c.in-Some.body) c.in-Named.told
    c.in-Named.is c.requires.known c.in-Some.ensures in
    stays_by_body (g.D.Decide.decides c.args.policy.now) c.args.number c.args.frame.now.octets.now c.args.frame.now.body.now (body_view c.in-Some.body) c.report_of.result c.report_of.new.line.items
    c.requires.body k.0 k.1 c.report_of.ensures.reports
