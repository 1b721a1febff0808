use Rattle.std.proofs.Common.{ap, sym, ◌∙◌, ◌&&◌}
use Rattle.guard_model.specs.ValueView.{value_view}
use Rattle.guard_policy.specs.PolicyView.{route_view}
use Rattle.guard_policy.specs.Decisions.{denies}
use Rattle.guard_policy.specs.inside.KeptRules.{rules_kept}
use Rattle.guard_policy.specs.SaidView.{said_view}
use Rattle.guard_policy.proofs.Applicable.{applicable_number}
use Rattle.guard_policy.proofs.Denials.{denies_there, denies_nowhere}
use Rattle.guard_policy.proofs.decision.denies_at.Goals as goal

pub rule_denies-requires-clause-sound : goal.rule_denies-requires-clause-sound
rule_denies-requires-clause-sound c =
    (applicable_number (route_view c.args.route.now) (value_view c.args.value.now) (rules_kept c.args.kept.now) c.args.number (said_view c.in-Some.rule)
    (sym c.in-Some.ensures) c.requires).0

pub rule_denies-requires-clause-fits : goal.rule_denies-requires-clause-fits
rule_denies-requires-clause-fits c =
    (applicable_number (route_view c.args.route.now) (value_view c.args.value.now) (rules_kept c.args.kept.now) c.args.number (said_view c.in-Some.rule)
    (sym c.in-Some.ensures) c.requires).1
    (sym c.speaks_of.ensures ∙ c.if-speaks_of.true)

pub returns-then-speaks_of : goal.returns-then-speaks_of
returns-then-speaks_of c =
    c.rule_denies.ensures ∙ sym (denies_there (rules_kept c.args.kept.now) (route_view c.args.route.now) (value_view c.args.value.now) c.args.number (said_view c.in-Some.rule)
    (sym c.in-Some.ensures)
    ∙ ap (λ b. b && denies (said_view c.in-Some.rule) (value_view c.args.value.now)) (sym c.speaks_of.ensures ∙ c.if-speaks_of.true))

pub returns-else-speaks_of : goal.returns-else-speaks_of
returns-else-speaks_of c =
    c.if-speaks_of.false ∙ sym (denies_there (rules_kept c.args.kept.now) (route_view c.args.route.now) (value_view c.args.value.now) c.args.number (said_view c.in-Some.rule)
    (sym c.in-Some.ensures)
    ∙ ap (λ b. b && denies (said_view c.in-Some.rule) (value_view c.args.value.now)) (sym c.speaks_of.ensures ∙ c.if-speaks_of.false))

pub returns-in-None : goal.returns-in-None
returns-in-None c =
    sym (denies_nowhere (rules_kept c.args.kept.now) (route_view c.args.route.now) (value_view c.args.value.now) c.args.number (sym c.in-None.ensures))
