use Rattle.std.proofs.Common.{subst}
use Rattle.std.specs.Prelude.{IfOk}
use Rattle.guard_policy.specs.Policies.{AbstractRoute}
use Rattle.guard_policy.specs.PolicyView.{policy_view}
use Rattle.guard_files.specs.Answers.{answer_view}
use Rattle.guard_messages.specs.Decided.{IsVerdict}
use Rattle.guard_messages.specs.RuleTypes.{grounds_view}
use Rattle.guard_messages.proofs.deciding.verdict_answer.Goals as goal

pub returns-in-Some : goal.returns-in-Some
returns-in-Some c =
    let p = policy_view c.args.policy.now in
    let g = grounds_view c.args.grounds.now in
    let decided = subst (λ (r : AbstractRoute). IfOk c.verdict_on.result (λ a. IsVerdict c.args.explain g p r c.in-Some.body.message_octets.now (answer_view a)))
    c.route_of.ensures c.verdict_on.ensures in
    rw c.in-Some.is decided
