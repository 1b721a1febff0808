use Rattle.std.proofs.Common.{sym, ◌∙◌}
use Rattle.guard_model.specs.TypeView.{kind_view}
use Rattle.guard_model.specs.ValueView.{value_view}
use Rattle.guard_eval.proofs.ValueAnswers.{found_at}
use Rattle.guard_eval.proofs.value_answers.passes_at.Goals as goal

pub returns-in-Some : goal.returns-in-Some
returns-in-Some c =
    c.allows.ensures ∙ sym (found_at c.get.result c.args.cons.now c.args.place c.in-Some.one c.get.ensures.lookup.3 c.in-Some.is (kind_view c.args.kind.now) (value_view c.args.value.now))
