use Rattle.std.proofs.Common.{◌∷◌, [], sym, ap, ◌∙◌}
use Rattle.guard_model.specs.AbstractType.{AbstractKind}
use Rattle.guard_model.specs.Kinds.{is_integer}
use Rattle.guard_model.specs.TypeView.{kind_view, constraint_view}
use Rattle.guard_eval.specs.Member.{holds}
use Rattle.guard_tables.specs.Lay.{scalar_tests}
use Rattle.guard_tables.specs.Plan.{AbstractTest}
use Rattle.guard_tables.proofs.ItemTests.{integer_view}
use Rattle.guard_eval.proofs.WholeSets.{alike_integer}
use Rattle.guard_tables.proofs.conditions_at_node.scalar_test.Goals as goal

pub returns-in_ok-number_test-in-Int : goal.returns-in_ok-number_test-in-Int
returns-in_ok-number_test-in-Int c =
    let own = kind_view c.args.own.now in
    let is = integer_view c.args.kind.now c.in-Int.field-0 c.in-Int.is in
    ap (λ (t : AbstractTest). t ∷ []) (c.in_ok-number_test-in-Int.ensures own (alike_integer own (kind_view c.args.kind.now) c.requires.0 (ap is_integer is)))
    ∙ sym (ap (λ (k : AbstractKind). scalar_tests k (holds (constraint_view c.args.constraint.now) own)) is)
