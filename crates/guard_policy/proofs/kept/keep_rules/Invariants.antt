use Rattle.std.proofs.Common.{◌≡◌, List, map, take}
use Rattle.guard_policy.specs.declared.kept.KeptMessage.{KeptMessage}
use Rattle.guard_policy.specs.KeptView.{kept_rule_view}
use Rattle.guard_policy.specs.SaidView.{said_message_view, said_view}
use Rattle.guard_policy.specs.inside.Keeping.{ArePlaced, tabled_view, tabled}
use Rattle.guard_policy.proofs.kept.keep_rules.Given as goal

abbrev pub invariant-loop-number : goal.invariant-loop-number
invariant-loop-number l = record {
  rules : (ms : List KeptMessage) → map tabled_view ms ≡ map (tabled (map said_view l.rules)) (map said_message_view l.messages)
      → map (kept_rule_view ms) l.kept.items ≡ map said_view (take l.number l.rules);
  placed : ArePlaced (map said_message_view l.messages) l.kept.items;
}
