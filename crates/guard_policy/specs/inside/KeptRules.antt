-- The messages and rules that what is kept of them represents.
use Rattle.std.specs.Prelude.{List, map}
use Rattle.guard_policy.specs.declared.kept.Kept.{Kept}
use Rattle.guard_policy.specs.KeptView.{kept_message_view, kept_rule_view}
use Rattle.guard_policy.specs.Policies.{AbstractMessage, AbstractRule}

abbrev pub messages_kept : Kept → List AbstractMessage
messages_kept kept = map kept_message_view kept.messages.items

abbrev pub rules_kept : Kept → List AbstractRule
rules_kept kept = map (kept_rule_view kept.messages.items) kept.rules.items
