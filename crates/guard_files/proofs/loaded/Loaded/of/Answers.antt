use Rattle.std.proofs.Common.{map}
use Rattle.std.proofs.lemmas.Result.{err_from_is_err_and}
use Rattle.guard_policy.specs.PolicyView.{policy_view}
use Rattle.guard_schema.specs.Views.{known_of, schema_view}
use Rattle.guard_syntax.specs.ModuleViews.{module_view}
use Rattle.guard_files.proofs.LoadedTexts.{built_refused, policy_refused, say_loaded}
use Rattle.guard_files.proofs.loaded.Loaded.of.Goals as goal

pub returns-in_err-built-clause-none : goal.returns-in_err-built-clause-none
returns-in_err-built-clause-none c =
    let e = err_from_is_err_and c.from_residual-in_err-built.result c.from_residual-in_err-built.ensures.1 in
    let t = c.args.texts.now in
    rw (e.1, e.2) (built_refused (map (λ text. text.items) t.modules.items) t.policy.items (map module_view c.as_slice-trees.result.now)
    (rw c.as_slice-trees.ensures.value c.in_ok-room.ensures.read) c.in_err-built.field-0.0 c.in_err-built.ensures.known)

pub returns-in_err-policy-clause-none : goal.returns-in_err-policy-clause-none
returns-in_err-policy-clause-none c =
    let e = err_from_is_err_and c.from_residual-in_err-policy.result c.from_residual-in_err-policy.ensures.1 in
    let t = c.args.texts.now in
    let b = c.in_ok-built.built in
    rw e.1 (policy_refused (map (λ text. text.items) t.modules.items) t.policy.items (map module_view c.as_slice-trees.result.now)
    (rw c.as_slice-trees.ensures.value c.in_ok-room.ensures.read) (known_of b) (schema_view b.schema) c.in_ok-built.ensures.known c.in_ok-built.ensures.schema c.in_err-policy.field-0.0 e.0 e.2
    (rw c.deref.ensures.value at c.in_err-policy.ensures.refused))

pub returns-clause-said : goal.returns-clause-said
returns-clause-said c =
    let t = c.args.texts.now in
    let b = c.in_ok-built.built in
    say_loaded (map (λ text. text.items) t.modules.items) t.policy.items (map module_view c.as_slice-trees.result.now) (rw c.as_slice-trees.ensures.value c.in_ok-room.ensures.read)
    (known_of b) (schema_view b.schema) c.in_ok-built.ensures.known c.in_ok-built.ensures.schema (policy_view c.in_ok-policy.policy)
    (rw c.deref.ensures.value at c.in_ok-policy.ensures.loads)
