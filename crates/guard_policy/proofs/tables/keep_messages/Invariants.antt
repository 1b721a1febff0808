use Rattle.std.proofs.Common.{◌≡◌, ◌+◌, All, map, drop, take}
use Rattle.guard_policy.specs.EntryFaults.{tables_fault}
use Rattle.guard_policy.specs.SaidView.{said_message_view, said_view}
use Rattle.guard_policy.specs.inside.Keeping.{tabled_view, tabled}
use Rattle.guard_policy.specs.Routing.{IsRouted}
use Rattle.guard_policy.proofs.tables.keep_messages.Given as goal

abbrev pub invariant-loop-index : goal.invariant-loop-index
invariant-loop-index l = record {
  faults : tables_fault (map said_view l.rules) (l.index + 1) (map said_message_view (drop l.index l.messages)) ≡ tables_fault (map said_view l.rules) 1 (map said_message_view l.messages);
  kept : map tabled_view l.kept.items ≡ map (tabled (map said_view l.rules)) (map said_message_view (take l.index l.messages));
  routed : All (IsRouted (map said_view l.rules)) l.kept.items;
}
