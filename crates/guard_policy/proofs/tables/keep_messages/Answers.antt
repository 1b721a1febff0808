use Rattle.std.proofs.Common.{◌+◌, map, drop, ap, ◌∙◌, ◌++◌, ◌∷◌, [], List, sym, take}
use Rattle.std.proofs.lemmas.List.{map_push}
use Rattle.std.proofs.lemmas.Result.{err_from_is_err_and}
use Rattle.guard_policy.specs.EntryFaults.{tables_fault}
use Rattle.guard_policy.specs.SaidView.{said_message_view, said_view}
use Rattle.guard_policy.specs.PolicyFaults.{named}
use Rattle.guard_policy.specs.inside.Keeping.{Tabled, tabled_view, tabled}
use Rattle.std.proofs.lemmas.List.Elements.{All-push}
use Rattle.guard_policy.specs.Routing.{IsRouted}
use Rattle.guard_policy.proofs.EntriesRead.{left_is, taken_is, sound_at, tables_one, tables_here}
use Rattle.guard_policy.proofs.tables.keep_messages.Goals as goal

pub keep_message-requires-clause-message_sound : goal.keep_message-requires-clause-message_sound
keep_message-requires-clause-message_sound c =
    sound_at c.args.messages.now c.loop-index.index c.index-messages-index.result c.loop-index-test.true c.index-messages-index.is c.requires.messages_sound

pub returns-in_err-message-clause-met : goal.returns-in_err-message-clause-met
returns-in_err-message-clause-met c =
    let p = err_from_is_err_and c.from_residual-in_err-message.result c.from_residual-in_err-message.ensures.1 in
    rw (p.1, p.2)
    (tables_here (map said_view c.args.rules.now) (map said_message_view (drop c.loop-index.index c.args.messages.now)) (map said_message_view (drop (c.loop-index.index + 1) c.args.messages.now))
    (said_message_view c.index-messages-index.result) (c.loop-index.index + 1) (tables_fault (map said_view c.args.rules.now) 1 (map said_message_view c.args.messages.now)) (named c.in_err-message.field-0.0)
    (left_is said_message_view c.args.messages.now c.loop-index.index c.index-messages-index.result c.loop-index-test.true c.index-messages-index.is)
    c.in_err-message.ensures.met c.loop-index.invariant.faults)

pub loop-index-preserved : goal.loop-index-preserved
loop-index-preserved c =
    let rules = map said_view c.args.rules.now in
    let m = said_message_view c.index-messages-index.result in
    record {
      faults = tables_one rules (map said_message_view (drop c.loop-index.index c.args.messages.now)) (map said_message_view (drop (c.loop-index.index + 1) c.args.messages.now))
          m (c.loop-index.index + 1) (tables_fault rules 1 (map said_message_view c.args.messages.now))
          (left_is said_message_view c.args.messages.now c.loop-index.index c.index-messages-index.result c.loop-index-test.true c.index-messages-index.is)
          c.in_ok-message.ensures.met c.loop-index.invariant.faults;
      kept = rw (c.in_ok-push.ensures.items, map_push tabled_view c.loop-index.kept.items)
          (ap (λ (t : Tabled). map tabled_view c.loop-index.kept.items ++ t ∷ []) c.in_ok-message.ensures.kept
          ∙ ap (λ (all : List Tabled). all ++ tabled rules m ∷ []) c.loop-index.invariant.kept
          ∙ sym (map_push (tabled rules) (map said_message_view (take c.loop-index.index c.args.messages.now)) m)
          ∙ ap (map (tabled rules)) (sym (taken_is said_message_view c.args.messages.now c.loop-index.index c.index-messages-index.result c.loop-index-test.true c.index-messages-index.is)));
      routed = rw c.in_ok-push.ensures.items (All-push (IsRouted rules) c.loop-index.kept.items c.in_ok-message.message c.loop-index.invariant.routed c.in_ok-message.ensures.routed);
    }
