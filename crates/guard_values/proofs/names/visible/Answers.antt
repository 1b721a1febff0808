use Rattle.std.proofs.Common.{◌∙◌, ap, sym}
use Rattle.guard_model.specs.TypeView.{type_view}
use Rattle.guard_model.specs.ValueView.{value_view, shared_view}
use Rattle.guard_model.specs.declared.value.Value.{Value}
use Rattle.guard_values.specs.KeptLengths.{contents_length}
use Rattle.guard_values.proofs.Counting.KnownLengths.{base_counted}
use Rattle.guard_values.proofs.names.visible.Goals as goal

pub returns-clause-counted : goal.returns-clause-counted
returns-clause-counted c =
    let seen = c.in-Some.visible in
    let t = type_view c.args.ty.now in
    base_counted t (type_view seen.ty.now) (shared_view seen.value.now) seen.length (sym c.same_base.ensures.test ∙ c.if-not-same_base.false) seen.counted
    ∙ ap (λ (v : Value). contents_length t (value_view v)) (sym c.in_ok-value.ensures.cases)
