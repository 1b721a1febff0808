use Rattle.std.proofs.Common.{◌+◌, map, drop, All}
use Rattle.std.specs.Prelude.{IsTrue}
use Rattle.guard_der.specs.Sound.{is_sound}
use Rattle.guard_policy.specs.inside.Answers.{tables_view}
use Rattle.guard_policy.specs.Entries.{rule_in}
use Rattle.guard_policy.specs.EntryFaults.{rule_fault}
use Rattle.guard_policy.specs.Policies.{message_names}
use Rattle.guard_policy.specs.SaidView.{said_message_view, said_view}
use Rattle.guard_policy.specs.inside.Keeping.{AreDeclared}
use Rattle.guard_policy.specs.inside.Said.{HaveSame, names_in}
use Rattle.guard_policy.proofs.EntriesRead.{Read}
use Rattle.guard_policy.proofs.rules.rules_of.Given as goal

abbrev pub invariant-loop-index : goal.invariant-loop-index
invariant-loop-index g l = record {
  read : Read (rule_fault (g.S.Types.types l.schema) (message_names (map said_message_view l.messages))) (rule_in (g.S.Types.types l.schema)) (λ r. r.name) (tables_view l.tables)
      (tables_view (drop l.index l.tables)) (l.index + 1) (map said_view l.rules.items);
  seen : HaveSame (names_in l.names) (map (λ r. r.name) (map said_view l.rules.items));
  sound : All (λ r. IsTrue (is_sound r.ty)) (map said_view l.rules.items);
  declared : AreDeclared (map said_message_view l.messages) (map said_view l.rules.items);
}
