use Rattle.std.proofs.Common.{subst}
use Rattle.std.specs.Prelude.{IfOk}
use Rattle.guard_policy.specs.Policies.{AbstractRoute}
use Rattle.guard_policy.specs.PolicyView.{policy_view}
use Rattle.guard_files.specs.Answers.{answer_view}
use Rattle.guard_messages.specs.Shown.{ShowsJson}
use Rattle.guard_messages.proofs.holding.as_json.Goals as goal

pub returns-in-Some : goal.returns-in-Some
returns-in-Some c =
    let shown = subst (λ (r : AbstractRoute). IfOk c.show_json.result (λ a. ShowsJson (policy_view c.args.policy.now) r c.in-Some.body.message_octets.now (answer_view a)))
    c.route_of.ensures c.show_json.ensures in
    rw c.in-Some.is shown
