use Rattle.std.proofs.Common.{subst}
use Rattle.std.specs.Prelude.{IfOk}
use Rattle.guard_policy.specs.Policies.{AbstractRoute}
use Rattle.guard_policy.specs.PolicyView.{policy_view}
use Rattle.guard_authors.specs.Testing.{ResultOfDigits, case_result_view}
use Rattle.guard_authors.proofs.testing.result_of.Goals as goal

pub returns-in-Some : goal.returns-in-Some
returns-in-Some c =
    let p = policy_view c.args.loaded.now.policy in
    let came = subst (λ (r : AbstractRoute). IfOk c.result_of_digits.result (λ came. ResultOfDigits p r c.in-Some.digits.now (case_result_view came))) c.route_of-route.ensures c.result_of_digits.ensures in
    rw c.in-Some.is came
