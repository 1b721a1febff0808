use Rattle.std.proofs.Common.{sym, ◌∙◌}
use Rattle.guard_model.specs.TypeView.{kind_view}
use Rattle.guard_model.specs.ValueView.{value_view}
use Rattle.guard_eval.proofs.Alternatives.{found_allows}
use Rattle.guard_eval.proofs.singles.allows_at.Goals as goal

pub returns-in-Some : goal.returns-in-Some
returns-in-Some c = λ h.
    found_allows c.get.result c.args.list.now c.args.place c.in-Some.one c.get.ensures.lookup.3 c.in-Some.is (kind_view c.args.kind.now) (value_view c.args.value.now) (sym c.one_allows.ensures ∙ h)
