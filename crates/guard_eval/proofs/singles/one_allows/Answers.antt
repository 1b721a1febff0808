use Rattle.std.proofs.Common.{ap, sym, ◌∙◌}
use Rattle.guard_model.specs.TypeView.{kind_view, constraint_view}
use Rattle.guard_model.specs.ValueView.{value_view}
use Rattle.guard_model.specs.declared.ty.Cons.{Cons}
use Rattle.guard_eval.specs.inside.ValueAnswers.{is_sized_by}
use Rattle.guard_eval.proofs.ValueAnswers.{passes_size}
use Rattle.guard_eval.proofs.singles.one_allows.Goals as goal

pub returns-in-Size : goal.returns-in-Size
returns-in-Size c =
    let kind = kind_view c.args.kind.now in
    let v = value_view c.args.value.now in
    c.is_sized.ensures ∙ ap (λ (s : Cons). is_sized_by kind v (constraint_view s)) c.deref.ensures ∙ sym (passes_size c.args.one.now c.in-Size.sizes c.in-Size.is kind v)
