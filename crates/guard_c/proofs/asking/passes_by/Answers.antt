use Rattle.std.specs.Prelude.{option_map}
use Rattle.guard_policy.specs.PolicyView.{policy_view, route_view}
use Rattle.guard_c.specs.inside.Taken.{policy_at}
use Rattle.guard_c.proofs.Naming.{passes_given, passes_read}
use Rattle.guard_c.proofs.asking.passes_by.Goals as goal

pub returns-in-Some-passes_as_given : goal.returns-in-Some-passes_as_given
returns-in-Some-passes_as_given c =
    let told = c.in-Some-passes_as_given in
    rw c.in-Some.is (passes_given (policy_view c.in-Some.policy.now) c.args.names.now c.args.message.now told.goes told.ensures.given)

pub returns : goal.returns
returns c =
    passes_read (policy_at c.args.policy) c.args.names.now c.args.message.now c.passes.result (option_map route_view c.route_in.result) c.route_in.ensures
    c.passes.ensures
