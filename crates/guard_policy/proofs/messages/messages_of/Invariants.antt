use Rattle.std.proofs.Common.{◌+◌, map, drop, All}
use Rattle.std.specs.Prelude.{IsTrue}
use Rattle.guard_der.specs.Sound.{is_sound}
use Rattle.guard_policy.specs.inside.Answers.{tables_view}
use Rattle.guard_policy.specs.Entries.{message_in}
use Rattle.guard_policy.specs.EntryFaults.{message_fault}
use Rattle.guard_policy.specs.SaidView.{said_message_view}
use Rattle.guard_policy.specs.inside.Said.{HaveSame, names_in}
use Rattle.guard_policy.proofs.EntriesRead.{Read}
use Rattle.guard_policy.proofs.messages.messages_of.Given as goal

abbrev pub invariant-loop-index : goal.invariant-loop-index
invariant-loop-index g l = record {
  read : Read (message_fault (g.S.Types.types l.schema)) (message_in (g.S.Types.types l.schema)) (λ m. m.name) (tables_view l.tables) (tables_view (drop l.index l.tables)) (l.index + 1)
      (map said_message_view l.messages.items);
  seen : HaveSame (names_in l.names) (map (λ m. m.name) (map said_message_view l.messages.items));
  sound : All (λ m. IsTrue (is_sound m.ty)) (map said_message_view l.messages.items);
}
