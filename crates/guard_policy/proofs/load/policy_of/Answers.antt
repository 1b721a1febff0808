use Rattle.std.proofs.Common.{map, string_bytes}
use Rattle.std.proofs.lemmas.Result.{err_from_is_err_and}
use Rattle.toml.specs.View.{table_view}
use Rattle.guard_policy.specs.inside.Answers.{tables_view}
use Rattle.guard_policy.specs.PolicyFaults.{named}
use Rattle.guard_policy.specs.SaidView.{said_message_view, said_view}
use Rattle.guard_policy.proofs.Loading.{loaded, loaded_only, load_refused, refused_rules, refused_messages, refused_top}
use Rattle.guard_policy.proofs.load.policy_of.Goals as goal

pub of_named-requires-clause-declared : goal.of_named-requires-clause-declared
of_named-requires-clause-declared g c =
    rw (c.deref-4.ensures.value, c.deref-5.ensures.value) (rw c.deref-2.ensures.value at c.in_ok-rules.ensures.declared)

pub returns-in_err-listed-clause-refused : goal.returns-in_err-listed-clause-refused
returns-in_err-listed-clause-refused g c = λ text document.
    let p = err_from_is_err_and c.from_residual.result c.from_residual.ensures.1 in
    rw (p.1, p.2) (refused_top text (g.S.Types.types c.args.schema.now) (table_view c.args.top.now) (named c.in_err-listed.field-0.0) document c.in_err-listed.ensures.met)

pub returns-in_err-messages-clause-refused : goal.returns-in_err-messages-clause-refused
returns-in_err-messages-clause-refused g c = λ text document.
    let p = err_from_is_err_and c.from_residual-in_err-messages.result c.from_residual-in_err-messages.ensures.1 in
    rw (p.1, p.2)
    (refused_messages text (g.S.Types.types c.args.schema.now) (table_view c.args.top.now)
    (tables_view c.in_ok-listed.listed.messages.items) (tables_view c.in_ok-listed.listed.rules.items)
    (record { document = document; faultless = c.in_ok-listed.ensures.met; messages_there = c.in_ok-listed.ensures.messages; rules_there = c.in_ok-listed.ensures.rules })
    (named c.in_err-messages.field-0.0) (rw c.deref.ensures.value at c.in_err-messages.ensures.met))

pub returns-in_err-rules-clause-refused : goal.returns-in_err-rules-clause-refused
returns-in_err-rules-clause-refused g c = λ text document.
    let p = err_from_is_err_and c.from_residual-in_err-rules.result c.from_residual-in_err-rules.ensures.1 in
    rw (p.1, p.2)
    (refused_rules text (g.S.Types.types c.args.schema.now) (table_view c.args.top.now)
    (tables_view c.in_ok-listed.listed.messages.items) (tables_view c.in_ok-listed.listed.rules.items)
    (record { document = document; faultless = c.in_ok-listed.ensures.met; messages_there = c.in_ok-listed.ensures.messages; rules_there = c.in_ok-listed.ensures.rules })
    (map said_message_view c.in_ok-messages.messages.items)
    (record { faultless = rw c.deref.ensures.value at c.in_ok-messages.ensures.met; said = rw c.deref.ensures.value at c.in_ok-messages.ensures.made })
    (named c.in_err-rules.field-0.0) (rw c.deref-3.ensures.value at (rw c.deref-2.ensures.value at c.in_err-rules.ensures.met)))

pub returns-clause-loads : goal.returns-clause-loads
returns-clause-loads g c = λ text document.
    (loaded text (g.S.Types.types c.args.schema.now) (table_view c.args.top.now)
    (tables_view c.in_ok-listed.listed.messages.items) (tables_view c.in_ok-listed.listed.rules.items)
    (record { document = document; faultless = c.in_ok-listed.ensures.met; messages_there = c.in_ok-listed.ensures.messages; rules_there = c.in_ok-listed.ensures.rules })
    (map said_message_view c.in_ok-messages.messages.items)
    (record { faultless = rw c.deref.ensures.value at c.in_ok-messages.ensures.met; said = rw c.deref.ensures.value at c.in_ok-messages.ensures.made })
    (map said_view c.in_ok-rules.rules.items)
    (record { faultless = rw c.deref-3.ensures.value at (rw c.deref-2.ensures.value at c.in_ok-rules.ensures.met); said = rw c.deref-3.ensures.value at c.in_ok-rules.ensures.made })
    (map string_bytes c.in_ok-modules.modules.items) c.in_ok-modules.ensures c.of_named.result
    (rw (c.deref-4.ensures.value, c.deref-5.ensures.value) at c.of_named.ensures.made) (rw (c.deref-4.ensures.value, c.deref-5.ensures.value) at c.of_named.ensures.met))

pub returns-clause-only : goal.returns-clause-only
returns-clause-only g c = λ text p document said.
    (loaded_only text (g.S.Types.types c.args.schema.now) (table_view c.args.top.now)
    (tables_view c.in_ok-listed.listed.messages.items) (tables_view c.in_ok-listed.listed.rules.items)
    (record { document = document; faultless = c.in_ok-listed.ensures.met; messages_there = c.in_ok-listed.ensures.messages; rules_there = c.in_ok-listed.ensures.rules })
    (map said_message_view c.in_ok-messages.messages.items)
    (record { faultless = rw c.deref.ensures.value at c.in_ok-messages.ensures.met; said = rw c.deref.ensures.value at c.in_ok-messages.ensures.made })
    (map said_view c.in_ok-rules.rules.items)
    (record { faultless = rw c.deref-3.ensures.value at (rw c.deref-2.ensures.value at c.in_ok-rules.ensures.met); said = rw c.deref-3.ensures.value at c.in_ok-rules.ensures.made })
    (map string_bytes c.in_ok-modules.modules.items) c.in_ok-modules.ensures c.of_named.result
    (rw (c.deref-4.ensures.value, c.deref-5.ensures.value) at c.of_named.ensures.made) (rw (c.deref-4.ensures.value, c.deref-5.ensures.value) at c.of_named.ensures.met) p said)

pub returns-clause-refused : goal.returns-clause-refused
returns-clause-refused g c = λ text document.
    (load_refused text (g.S.Types.types c.args.schema.now) (table_view c.args.top.now)
    (tables_view c.in_ok-listed.listed.messages.items) (tables_view c.in_ok-listed.listed.rules.items)
    (record { document = document; faultless = c.in_ok-listed.ensures.met; messages_there = c.in_ok-listed.ensures.messages; rules_there = c.in_ok-listed.ensures.rules })
    (map said_message_view c.in_ok-messages.messages.items)
    (record { faultless = rw c.deref.ensures.value at c.in_ok-messages.ensures.met; said = rw c.deref.ensures.value at c.in_ok-messages.ensures.made })
    (map said_view c.in_ok-rules.rules.items)
    (record { faultless = rw c.deref-3.ensures.value at (rw c.deref-2.ensures.value at c.in_ok-rules.ensures.met); said = rw c.deref-3.ensures.value at c.in_ok-rules.ensures.made })
    c.of_named.result (rw (c.deref-4.ensures.value, c.deref-5.ensures.value) at c.of_named.ensures.met))
