use Rattle.std.proofs.Common.{ap, ◌∙◌}
use Rattle.std.proofs.lemmas.Int.{to_z-of_z}
use Rattle.guard_integers.specs.Integers.{holds}
use Rattle.guard_integers.specs.Ranges.{one_holds}
use Rattle.guard_integers.proofs.RangeLists.AsSets.{has_it}
use Rattle.guard_integers.proofs.int_set.IntSet.has.Goals as goal

pub returns : goal.returns
returns c =
    c.one_holds.ensures
    ∙ ap (one_holds c.deref.result.now) (to_z-of_z _ c.args.number c.ranges.number)
    ∙ ap (λ rs. one_holds rs c.args.number) c.deref.ensures.value
    ∙ has_it c.self.inside.ranges.items c.args.number c.ranges.number
    ∙ ap (λ set. holds set c.args.number) c.self.view_is
