use Rattle.std.proofs.Common.{sym, length}
use Rattle.guard_model.proofs.Components.{in_view}
use Rattle.guard_values.specs.Views.{located_view}
use Rattle.guard_values.proofs.Braces.ProperComponents.{choice_proper, choice_parts, few_alternatives, small_place, proper_there}
use Rattle.guard_values.proofs.FirstFaults.NamedRefusals.{no_alternative}
use Rattle.guard_values.proofs.components.alternative.Goals as goal

pub overflow_cast-result : goal.overflow_cast-result
overflow_cast-result c =
    small_place c.in-Some.place (length c.in-Choice.alternatives.items) (rw c.deref.ensures.value at c.in-Some.ensures.within) (few_alternatives c.in-Choice.alternatives.items (choice_proper c.args.kind.now c.in-Choice.alternatives c.in-Choice.is c.requires))

pub returns-in-Some-clause-proper : goal.returns-in-Some-clause-proper
returns-in-Some-clause-proper c =
    proper_there (in_view c.in-Choice.alternatives.items) c.args.name.now (located_view (c.in-Some.place, c.in-Some.ty)) (choice_parts (in_view c.in-Choice.alternatives.items) (choice_proper c.args.kind.now c.in-Choice.alternatives c.in-Choice.is c.requires)).1
    (sym (rw c.deref.ensures.value at c.in-Some.ensures.found))

pub returns-in-None-clause-given : goal.returns-in-None-clause-given
returns-in-None-clause-given c =
    no_alternative c.args.site c.args.kind.now c.in-Choice.alternatives c.args.name.now c.in-Choice.is (rw c.deref.ensures.value at c.in-None.ensures.found)
