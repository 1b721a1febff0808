use Rattle.std.proofs.Common.{◌∙◌, sym, subst}
use Rattle.guard_policy.specs.FoundRoutes.{Decides}
use Rattle.guard_policy.specs.Policies.{AbstractRoute}
use Rattle.guard_policy.specs.PolicyView.{policy_view}
use Rattle.guard_policy.specs.Told.{Tells}
use Rattle.guard_frames.specs.Bodies.{body_view}
use Rattle.guard_frames.proofs.Reporting.{not_without}
use Rattle.guard_frames.specs.Recalling.{recalled}
use Rattle.guard_frames.proofs.BodyDecisions.{message_within, header_first, names_before, decided_as_given, decided_as_named, misnamed, recalls_kept}
use Rattle.guard_frames.proofs.policies.goes_as_read.Goals as goal

pub slice_bounds-names-count : goal.slice_bounds-names-count
slice_bounds-names-count c = message_within c.args.octets.now (body_view c.in-Some.body) c.in-Some.ensures

pub returns-in_default-clause-decided : goal.returns-in_default-clause-decided
returns-in_default-clause-decided c = λ b is. not_without c.args.octets.now b is c.in_default.ensures

pub returns-in-Some-passes_and_found-clause-decided : goal.returns-in-Some-passes_and_found-clause-decided
returns-in-Some-passes_and_found-clause-decided c =
    decided_as_given (policy_view c.args.policy.now) c.args.octets.now _ c.in-Some.body.message_octets.now c.in-Some-passes_and_found.told c.decided.result
    (names_before c.args.octets.now (body_view c.in-Some.body) c.in-Some.ensures) c.in-Some-passes_and_found.ensures.given c.decided.ensures

pub returns-in-Some-passes_and_found-clause-recalls : goal.returns-in-Some-passes_and_found-clause-recalls
returns-in-Some-passes_and_found-clause-recalls c = c.requires

pub returns-then-not-has_names-clause-decided : goal.returns-then-not-has_names-clause-decided
returns-then-not-has_names-clause-decided c = misnamed c.args.octets.now (body_view c.in-Some.body) c.in-Some.ensures (sym c.has_names.ensures ∙ c.if-not-has_names.true)

pub returns-then-not-has_names-clause-recalls : goal.returns-then-not-has_names-clause-recalls
returns-then-not-has_names-clause-recalls c = c.requires

pub returns-clause-decided : goal.returns-clause-decided
returns-clause-decided c =
    let p = policy_view c.args.policy.now in
    let b = body_view c.in-Some.body in
    decided_as_named p c.args.octets.now b c.look_at.result c.decided-2.result c.in-Some.ensures (sym c.has_names.ensures ∙ c.if-not-has_names.false)
    (subst (λ (r : AbstractRoute). Tells p r b.message_octets c.look_at.result) c.route_of.ensures (c.find_route-found.ensures b.message_octets c.look_at.result c.look_at.ensures))
    c.decided-2.ensures

pub returns-clause-recalls : goal.returns-clause-recalls
returns-clause-recalls c =
    let p = policy_view c.args.policy.now in
    let b = body_view c.in-Some.body in
    recalls_kept p b _ c.find_route-found.result (recalled c.keep.new.self) (sym c.has_names.ensures ∙ c.if-not-has_names.false)
    (header_first c.args.octets.now b c.in-Some.ensures)
    (subst (λ (r : AbstractRoute). Decides p r c.find_route-found.result) c.route_of.ensures c.find_route-found.ensures) c.keep.ensures
