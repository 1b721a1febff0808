use Rattle.std.proofs.Common.{rules}
use Rattle.guard_model.specs.declared.ty.Kind.{the_lemmas}
use Rattle.guard_constraints.proofs.joining.of_all.Goals as goal

pub returns-in-Union : goal.returns-in-Union
returns-in-Union c = search (rules, the_lemmas)

pub returns-in-Intersection : goal.returns-in-Intersection
returns-in-Intersection c = search (rules, the_lemmas)
