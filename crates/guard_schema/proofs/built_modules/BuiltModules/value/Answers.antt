use Rattle.std.proofs.Common.{ap, sym, subst, ◌∙◌}
use Rattle.std.specs.Prelude.{IfSome}
use Rattle.std.proofs.lemmas.Result.{err_from_is_err_and}
use Rattle.guard_model.specs.AbstractValue.{AbstractValue}
use Rattle.guard_model.specs.TypeView.{type_view}
use Rattle.guard_model.specs.ValueView.{value_view}
use Rattle.guard_syntax.specs.Views as trees
use Rattle.guard_values.specs.Denotes.{Denotes}
use Rattle.guard_values.specs.FirstFault.{IsFirstFault}
use Rattle.guard_values.specs.Meanings.{Meaning}
use Rattle.guard_values.specs.Views as values
use Rattle.guard_values.specs.Views.{visible_in}
use Rattle.guard_schema.proofs.Alone.{in_module}
use Rattle.guard_schema.proofs.Built.Visible.{all_fitting}
use Rattle.guard_schema.proofs.built_modules.BuiltModules.value.Goals as goal

pub shared_value_in-requires-clause-fitting : goal.shared_value_in-requires-clause-fitting
shared_value_in-requires-clause-fitting c = all_fitting c.args.self.now.schema.known c.args.self.now.schema.fitting

pub returns-in_err-shared-clause-first : goal.returns-in_err-shared-clause-first
returns-in_err-shared-clause-first c =
    let p = err_from_is_err_and c.from_residual.result c.from_residual.ensures.1 in
    rw (p.1, p.2) (in_module (λ (m : Meaning). IfSome (values.named c.in_err-shared.field-0.0)
    (IsFirstFault m (type_view c.args.ty.now) (trees.value_view c.args.tree.now)))
    c.args.self.now c.args.home.now c.as_bytes.result.now c.as_bytes.ensures.value c.in_err-shared.ensures.first)

pub returns-in_err-shared-clause-none : goal.returns-in_err-shared-clause-none
returns-in_err-shared-clause-none c =
    let p = err_from_is_err_and c.from_residual.result c.from_residual.ensures.1 in
    rw (p.1, p.2) (in_module (λ (m : Meaning). IfSome (values.named c.in_err-shared.field-0.0)
    (λ f. (v : AbstractValue) → Denotes m (type_view c.args.ty.now) (trees.value_view c.args.tree.now) v → ⊥))
    c.args.self.now c.args.home.now c.as_bytes.result.now c.as_bytes.ensures.value c.in_err-shared.ensures.none)

pub returns-clause-denoted : goal.returns-clause-denoted
returns-clause-denoted c =
    in_module (λ (m : Meaning). Denotes m (type_view c.args.ty.now) (trees.value_view c.args.tree.now) (value_view c.in_ok-copy.field-0))
    c.args.self.now c.args.home.now c.as_bytes.result.now c.as_bytes.ensures.value
    (subst (λ (v : AbstractValue). Denotes (visible_in c.args.self.now.names c.args.self.now.schema.known c.as_bytes.result.now)
    (type_view c.args.ty.now) (trees.value_view c.args.tree.now) v)
    (sym (c.in_ok-copy.ensures ∙ ap value_view c.deref.ensures)) c.in_ok-shared.ensures.denoted)
