-- The policy that a policy of the code represents.
pub use Rattle.guard_policy.specs.SaidView.{said_view}
use Rattle.std.specs.Prelude.{map, string_bytes}
use Rattle.guard_policy.specs.declared.policy.Policy.{Policy}
use Rattle.guard_policy.specs.declared.route.Route.{Route}
use Rattle.guard_policy.specs.KeptView.{kept_message_view, kept_rule_view}
use Rattle.guard_policy.specs.Policies.{AbstractPolicy, AbstractRoute}

abbrev pub policy_view : Policy → AbstractPolicy
policy_view p = record {
  messages = map kept_message_view p.kept.messages.items;
  rules = map (kept_rule_view p.kept.messages.items) p.kept.rules.items;
  modules = map string_bytes p.modules.items;
}

abbrev pub route_view : Route → AbstractRoute
route_view r = record { from = r.from.now; to = r.to.now; message = r.message.now }
