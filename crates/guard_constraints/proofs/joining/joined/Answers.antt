use Rattle.std.proofs.Common.{sym, ◌∙◌}
use Rattle.std.proofs.lemmas.Result.{IfOk-weaker}
use Rattle.guard_model.specs.TypeView.{constraint_view}
use Rattle.guard_constraints.proofs.CodeSteps.JoinedConstraints.{joined_alone, joined_several}
use Rattle.guard_constraints.proofs.joining.joined.Goals as goal

pub returns-then-is_empty : goal.returns-then-is_empty
returns-then-is_empty c =
    sym (joined_alone c.args.join c.args.site (constraint_view c.args.first) c.args.others.items (rw c.deref-joined_parts.ensures.value at (sym c.is_empty.ensures ∙ c.if-is_empty.true)))

pub returns : goal.returns
returns c =
    let several = joined_several c.args.join c.args.site (constraint_view c.args.first) c.args.others.items (rw c.deref-joined_parts.ensures.value at (sym c.is_empty.ensures ∙ c.if-is_empty.false)) in
    IfOk-weaker c.of_all.result _ _ (λ one is. rw c.in_ok-all.ensures at is ∙ sym several) c.of_all.ensures
