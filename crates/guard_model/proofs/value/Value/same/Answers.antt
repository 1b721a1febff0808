use Rattle.std.proofs.lemmas.Bool.Decides.{Decides-at}
use Rattle.guard_model.specs.Same.{same}
use Rattle.guard_model.specs.ValueView.{value_view}
use Rattle.guard_model.proofs.Sameness.{same-Decides}
use Rattle.guard_model.proofs.value.Value.same.Goals as goal

pub returns-clause-equal : goal.returns-clause-equal
returns-clause-equal c = Decides-at _ (same (value_view c.args.self.now) (value_view c.args.other.now)) c.equals.ensures (same-Decides _ _)
