use Rattle.std.proofs.Common.{◌≡◌, ◌+◌, ◌∙◌, map, drop, sym, subst, List, Option, Some}
use Rattle.std.specs.Prelude.{IsTrue, IfSome}
use Rattle.std.proofs.lemmas.List.{map_push}
use Rattle.std.proofs.lemmas.List.Elements.{All-push}
use Rattle.std.proofs.lemmas.Result.{err_from_is_err_and}
use Rattle.guard_der.specs.Sound.{is_sound}
use Rattle.toml.specs.Data.{Members}
use Rattle.toml.specs.View.{table_view}
use Rattle.guard_policy.specs.inside.Answers.{tables_view}
use Rattle.guard_policy.specs.SaidView.{said_message_view}
use Rattle.guard_policy.specs.inside.Said.{names_in}
use Rattle.guard_policy.specs.Entries.{message_in}
use Rattle.guard_policy.specs.EntryFaults.{message_fault}
use Rattle.guard_policy.specs.Policies.{AbstractMessage}
use Rattle.guard_policy.specs.PolicyFaults.{AbstractFault, named}
use Rattle.guard_policy.proofs.EntriesRead.{Read, read_one, read_fault, tables_left, name_of_message}
use Rattle.guard_policy.proofs.NamesSeen.{message_same, seen_more}
use Rattle.guard_policy.proofs.messages.messages_of.Goals as goal

pub loop-index-preserved : goal.loop-index-preserved
loop-index-preserved g c =
    let types = g.S.Types.types c.args.schema.now in
    let made = map said_message_view c.loop-index.messages.items in
    let m = said_message_view c.in_ok-message.message in
    let entry = table_view c.index-tables-index.result.now in
    let number = c.loop-index.index + 1 in
    let rest = tables_view (drop (c.loop-index.index + 1) c.args.tables.now) in
    let left = tables_left c.args.tables.now c.loop-index.index c.index-tables-index.result c.loop-index-test.true c.index-tables-index.is in
    let same = message_same types (names_in c.loop-index.names) (map (λ x. x.name) made) number entry c.loop-index.invariant.seen in
    record {
      read = rw (c.in_ok-push.ensures.items, map_push said_message_view c.loop-index.messages.items)
          (read_one (message_fault types) (message_in types) (λ x. x.name) (tables_view c.args.tables.now) rest number made entry m
          (sym same ∙ c.in_ok-message.ensures.met) c.in_ok-message.ensures.made (name_of_message types entry m c.in_ok-message.ensures.made)
          (subst (λ (l : List Members). Read (message_fault types) (message_in types) (λ x. x.name) (tables_view c.args.tables.now) l number made) left c.loop-index.invariant.read));
      seen = rw (c.in_ok-push.ensures.items, map_push said_message_view c.loop-index.messages.items, map_push (λ (x : AbstractMessage). x.name) made)
          (seen_more c.loop-index.names.keys _ (map (λ x. x.name) made) m.name
          (λ q. c.in_ok-insert.ensures.updates.0 (record { ref_ptr = (0, 0); now = q })) c.loop-index.invariant.seen);
      sound = rw (c.in_ok-push.ensures.items, map_push said_message_view c.loop-index.messages.items)
          (All-push (λ (x : AbstractMessage). IsTrue (is_sound x.ty)) made m c.loop-index.invariant.sound c.in_ok-message.ensures.sound);
    }

pub returns-in_err-message-clause-met : goal.returns-in_err-message-clause-met
returns-in_err-message-clause-met g c =
    let types = g.S.Types.types c.args.schema.now in
    let made = map said_message_view c.loop-index.messages.items in
    let entry = table_view c.index-tables-index.result.now in
    let number = c.loop-index.index + 1 in
    let rest = tables_view (drop (c.loop-index.index + 1) c.args.tables.now) in
    let left = tables_left c.args.tables.now c.loop-index.index c.index-tables-index.result c.loop-index-test.true c.index-tables-index.is in
    let same = message_same types (names_in c.loop-index.names) (map (λ x. x.name) made) number entry c.loop-index.invariant.seen in
    let fault = named c.in_err-message.field-0.0 in
    let p = err_from_is_err_and c.from_residual-in_err-message.result c.from_residual-in_err-message.ensures.1 in
    rw (p.1, p.2)
    (read_fault (message_fault types) (message_in types) (λ x. x.name) (tables_view c.args.tables.now) rest number made entry fault
    (subst (λ (o : Option AbstractFault). IfSome fault (λ f. o ≡ Some f)) same c.in_err-message.ensures.met)
    (subst (λ (l : List Members). Read (message_fault types) (message_in types) (λ x. x.name) (tables_view c.args.tables.now) l number made) left c.loop-index.invariant.read))
