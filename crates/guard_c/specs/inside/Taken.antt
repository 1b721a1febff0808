-- What was taken out of a handle, until it is given back, and the policy in it.
use Rattle.std.specs.Prelude.{Option, option_map}
use Rattle.std.specs.Borrow.{Bor}
use Rattle.std.specs.declared.alloc.Global.{Global}
use Rattle.std_alloc.specs.declared.arc.Arc.{Arc}
use Rattle.std_alloc.specs.declared.boxed.Box.{Box}
use Rattle.std_alloc.specs.Arc.{arc_value}
use Rattle.guard_policy.specs.Policies.{AbstractPolicy}
use Rattle.guard_policy.specs.PolicyView.{policy_view}
use Rattle.guard_policy.specs.declared.policy.Policy.{Policy}
use Rattle.guard_c.specs.declared.held.Held.{Held}

-- what the handle held
abbrev pub kept_of : Option (Box Held Global) → Option Held
kept_of taken = option_map (λ b. b.value) taken

abbrev pub policy_under : Option (Bor (Arc Policy Global)) → Option AbstractPolicy
policy_under owner = option_map (λ o. policy_view (arc_value o.now)) owner

abbrev pub policy_at : Option (Bor Policy) → Option AbstractPolicy
policy_at policy = option_map (λ p. policy_view p.now) policy
