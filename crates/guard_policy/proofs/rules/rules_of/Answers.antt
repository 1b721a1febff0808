use Rattle.std.proofs.Common.{◌≡◌, ◌+◌, ◌∙◌, map, drop, sym, subst, List, Option, Some}
use Rattle.std.specs.Prelude.{bytes_eq, IsTrue, IfSome}
use Rattle.std.specs.List.{list_any}
use Rattle.std.proofs.lemmas.List.{map_push}
use Rattle.std.proofs.lemmas.List.Elements.{All-push}
use Rattle.std.proofs.lemmas.Result.{err_from_is_err_and}
use Rattle.guard_der.specs.Sound.{is_sound}
use Rattle.toml.specs.Data.{Members}
use Rattle.toml.specs.View.{table_view}
use Rattle.guard_policy.specs.inside.Answers.{tables_view}
use Rattle.guard_policy.specs.inside.Said.{names_in}
use Rattle.guard_policy.specs.Entries.{rule_in}
use Rattle.guard_policy.specs.EntryFaults.{rule_fault}
use Rattle.guard_policy.specs.Policies.{AbstractRule, message_names}
use Rattle.guard_policy.specs.PolicyFaults.{AbstractFault, named}
use Rattle.guard_policy.specs.SaidView.{said_message_view, said_view}
use Rattle.guard_policy.proofs.EntriesRead.{Read, read_one, read_fault, tables_left, name_of_rule}
use Rattle.guard_policy.proofs.NamesSeen.{rule_same, seen_one}
use Rattle.guard_policy.proofs.rules.rules_of.Goals as goal

pub loop-index-preserved : goal.loop-index-preserved
loop-index-preserved g c =
    let types = g.S.Types.types c.args.schema.now in
    let names = message_names (map said_message_view c.args.messages.now) in
    let made = map said_view c.loop-index.rules.items in
    let r = said_view c.in_ok-rule.rule in
    let entry = table_view c.index-tables-index.result.now in
    let number = c.loop-index.index + 1 in
    let rest = tables_view (drop (c.loop-index.index + 1) c.args.tables.now) in
    let left = tables_left c.args.tables.now c.loop-index.index c.index-tables-index.result c.loop-index-test.true c.index-tables-index.is in
    let same = rule_same types (names_in c.in_ok-declared.declared) names (names_in c.loop-index.names) (map (λ x. x.name) made) number entry
    c.in_ok-declared.ensures c.loop-index.invariant.seen in
    record {
      read = rw (c.in_ok-push.ensures.items, map_push said_view c.loop-index.rules.items)
          (read_one (rule_fault types names) (rule_in types) (λ x. x.name) (tables_view c.args.tables.now) rest number made entry r
          (sym same ∙ c.in_ok-rule.ensures.met) c.in_ok-rule.ensures.made (name_of_rule types entry r c.in_ok-rule.ensures.made)
          (subst (λ (l : List Members). Read (rule_fault types names) (rule_in types) (λ x. x.name) (tables_view c.args.tables.now) l number made) left c.loop-index.invariant.read));
      seen = rw (c.in_ok-push.ensures.items, map_push said_view c.loop-index.rules.items, map_push (λ (x : AbstractRule). x.name) made)
          (seen_one _ (names_in c.loop-index.names) (map (λ x. x.name) made) r.name c.in_ok-rule.ensures.seen c.loop-index.invariant.seen);
      sound = rw (c.in_ok-push.ensures.items, map_push said_view c.loop-index.rules.items)
          (All-push (λ (x : AbstractRule). IsTrue (is_sound x.ty)) made r c.loop-index.invariant.sound c.in_ok-rule.ensures.sound);
      declared = rw (c.in_ok-push.ensures.items, map_push said_view c.loop-index.rules.items)
          (All-push (λ (x : AbstractRule). IsTrue (list_any (bytes_eq x.message) names)) made r c.loop-index.invariant.declared
          (sym (c.in_ok-declared.ensures r.message) ∙ c.in_ok-rule.ensures.declared));
    }

pub returns-in_err-rule-clause-met : goal.returns-in_err-rule-clause-met
returns-in_err-rule-clause-met g c =
    let types = g.S.Types.types c.args.schema.now in
    let names = message_names (map said_message_view c.args.messages.now) in
    let made = map said_view c.loop-index.rules.items in
    let entry = table_view c.index-tables-index.result.now in
    let number = c.loop-index.index + 1 in
    let rest = tables_view (drop (c.loop-index.index + 1) c.args.tables.now) in
    let left = tables_left c.args.tables.now c.loop-index.index c.index-tables-index.result c.loop-index-test.true c.index-tables-index.is in
    let same = rule_same types (names_in c.in_ok-declared.declared) names (names_in c.loop-index.names) (map (λ x. x.name) made) number entry
    c.in_ok-declared.ensures c.loop-index.invariant.seen in
    let fault = named c.in_err-rule.field-0.0 in
    let p = err_from_is_err_and c.from_residual-in_err-rule.result c.from_residual-in_err-rule.ensures.1 in
    rw (p.1, p.2)
    (read_fault (rule_fault types names) (rule_in types) (λ x. x.name) (tables_view c.args.tables.now) rest number made entry fault
    (subst (λ (o : Option AbstractFault). IfSome fault (λ f. o ≡ Some f)) same c.in_err-rule.ensures.met)
    (subst (λ (l : List Members). Read (rule_fault types names) (rule_in types) (λ x. x.name) (tables_view c.args.tables.now) l number made) left c.loop-index.invariant.read))
