use Rattle.std.proofs.Common.{◌↔◌, ◌∙◌, ap, subst}
use Rattle.std.specs.Prelude.{IsTrue, Option, option_map}
use Rattle.guard_policy.specs.Policies.{AbstractPolicy, AbstractRoute}
use Rattle.guard_policy.specs.PolicyView.{route_view}
use Rattle.guard_c.specs.Asking.{PassesOn}
use Rattle.guard_c.specs.Holding.{policy_of}
use Rattle.guard_c.specs.inside.Taken.{policy_at}
use Rattle.guard_c.proofs.Naming.{passes_plain}
use Rattle.guard_c.proofs.policies.derguard_passes_from.Goals as goal

pub returns-clause-answer : goal.returns-clause-answer
returns-clause-answer c =
    let route : AbstractRoute = record { from = c.args.sender.now; to = c.args.receiver.now; message = c.args.name.now } in
    subst (λ (p : Option AbstractPolicy). IsTrue c.passes-answer.result ↔ PassesOn p route c.args.message.now) (c.policy_in.ensures ∙ ap policy_of c.take-taken.ensures.held)
    (passes_plain (policy_at c.policy_in.result) route c.args.message.now c.passes-answer.result (option_map route_view c.route_of.result)
    c.route_of.ensures c.passes-answer.ensures)
