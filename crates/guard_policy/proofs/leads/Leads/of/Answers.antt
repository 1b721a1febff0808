use Rattle.std.proofs.Common.{◌≡◌, cond, None, ap, sym, ◌∙◌, map, take}
use Rattle.guard_policy.specs.NamedRoutes.{route_octets}
use Rattle.guard_policy.specs.Names.{is_plain}
use Rattle.guard_policy.specs.Policies.{AbstractRoute, own_route}
use Rattle.guard_policy.specs.SaidView.{said_view}
use Rattle.guard_policy.specs.inside.Leads.{lead_of}
use Rattle.guard_policy.proofs.EntriesRead.{taken_is}
use Rattle.guard_policy.proofs.GivenRoutes.{left_out, put_in}
use Rattle.guard_policy.proofs.leads.Leads.of.Goals as goal
use Rattle.guard_policy.proofs.leads.Leads.of.Goals.{in-Some+in_ok-of+in_ok-insert, in_default}

pub loop-rule-preserved : goal.loop-rule-preserved
loop-rule-preserved c = λ names.
    let lead = lead_of c.args.index.now c.args.messages.now in
    let i = c.loop-rule.rule-index in
    let r = said_view c.rule-item.result in
    let taken = map said_view (take i c.args.rules.now) in
    let own = c.route-route.ensures in
    let found : c.lead_of.result ≡ cond (is_plain (own_route r)) (lead (own_route r)) None =
    c.lead_of.ensures ∙ ap (λ (route : AbstractRoute). cond (is_plain route) (lead route) None) own in
    rw (taken_is said_view c.args.rules.now i c.rule-item.result c.loop-rule-test.true c.rule-item.is)
    (elim c.match-lead_of.branch [
      | in-Some+in_ok-of+in_ok-insert w ↦
          rw w.routes-is
          (put_in lead taken r (λ x. x.octets.items) c.loop-rule.routes.entries w.insert.new.self.entries w.in_ok-of.field-0 w.in-Some.lead
          (sym found ∙ w.in-Some.is) w.in_ok-insert.ensures.entries (w.in_ok-of.ensures ∙ ap route_octets own) c.loop-rule.invariant names)
      | in_default w ↦ rw w.routes-is (c.loop-rule.invariant names ∙ left_out lead taken r (sym found ∙ w.in_default.is) names)
    ])
