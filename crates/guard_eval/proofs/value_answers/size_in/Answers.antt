use Rattle.std.proofs.Common.{ap, sym, ◌∙◌}
use Rattle.guard_model.specs.TypeView.{constraint_view}
use Rattle.guard_model.specs.declared.ty.Cons.{Cons}
use Rattle.guard_eval.specs.inside.ValueAnswers.{is_sized_by}
use Rattle.guard_eval.proofs.ValueAnswers.{passes_size}
use Rattle.guard_eval.proofs.value_answers.size_in.Goals as goal

pub returns-in-Size : goal.returns-in-Size
returns-in-Size c = λ kind v. passes_size c.args.cons.now c.in-Size.size c.in-Size.is kind v ∙ ap (λ (s : Cons). is_sized_by kind v (constraint_view s)) (sym c.deref.ensures)
