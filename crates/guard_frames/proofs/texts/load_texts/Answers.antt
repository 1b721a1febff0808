use Rattle.std.proofs.Common.{map, sym, ap, Ok}
use Rattle.std.proofs.lemmas.Result.{err_from_is_err_and}
use Rattle.guard_schema.specs.Schemas.{named_types}
use Rattle.guard_schema.specs.Views.{schema_view}
use Rattle.guard_frames.proofs.OnePolicy.{schema_refused, schema_there, policy_refused, policy_there, policy_said}
use Rattle.guard_frames.proofs.texts.load_texts.Goals as goal

pub returns-clause-said : goal.returns-clause-said
returns-clause-said c = (schema_view c.in_ok-schema.schema, c.in_ok-schema.ensures.accepted, c.in_ok-load.ensures.loads)

pub returns-clause-only : goal.returns-clause-only
returns-clause-only c = λ p said.
    ap Ok (sym (c.in_ok-load.ensures.only p
    (policy_said (map (λ t. t.now) c.args.modules.now) c.args.text.now (schema_view c.in_ok-schema.schema) said.0 p (c.in_ok-schema.ensures.only said.0 said.1) said.2)))

pub returns-in_err-schema-clause-refused : goal.returns-in_err-schema-clause-refused
returns-in_err-schema-clause-refused c =
    let e = err_from_is_err_and c.from_residual.result c.from_residual.ensures.1 in
    rw (e.1, e.2) (schema_refused (map (λ t. t.now) c.args.modules.now) c.args.text.now c.in_err-schema.field-0.0 c.in_err-schema.ensures.refused)

pub returns-in_err-schema-clause-only : goal.returns-in_err-schema-clause-only
returns-in_err-schema-clause-only c =
    let e = err_from_is_err_and c.from_residual.result c.from_residual.ensures.1 in
    rw (e.1, e.2) (λ p said. schema_there said.0 p c.in_err-schema.field-0.0 (c.in_err-schema.ensures.only said.0 said.1))

pub returns-in_err-load-clause-refused : goal.returns-in_err-load-clause-refused
returns-in_err-load-clause-refused c =
    let e = err_from_is_err_and c.from_residual-in_err-load.result c.from_residual-in_err-load.ensures.1 in
    rw (e.1, e.2) (policy_refused (map (λ t. t.now) c.args.modules.now) c.args.text.now (schema_view c.in_ok-schema.schema) c.in_ok-schema.ensures.accepted c.in_err-load.field-0.0 c.in_err-load.ensures.refused)

pub returns-in_err-load-clause-only : goal.returns-in_err-load-clause-only
returns-in_err-load-clause-only c =
    let e = err_from_is_err_and c.from_residual-in_err-load.result c.from_residual-in_err-load.ensures.1 in
    rw (e.1, e.2) (λ p said. policy_there c.args.text.now (named_types (schema_view c.in_ok-schema.schema)) p
    (policy_said (map (λ t. t.now) c.args.modules.now) c.args.text.now (schema_view c.in_ok-schema.schema) said.0 p (c.in_ok-schema.ensures.only said.0 said.1) said.2)
    c.in_err-load.field-0.0 c.in_err-load.ensures.refused)
