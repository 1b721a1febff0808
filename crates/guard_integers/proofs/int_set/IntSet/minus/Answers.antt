use Rattle.std.proofs.Common.{◌&&◌, not}
use Rattle.guard_integers.specs.Integers.{holds}
use Rattle.guard_integers.proofs.RangeLists.AsSets.{holds_as, minus_has}
use Rattle.guard_integers.proofs.int_set.IntSet.minus.Goals as goal

pub returns : goal.returns
returns c =
    holds_as c.intersection-2.result _ (λ x. holds c.args.self.now x && not (holds c.args.other.now x)) c.intersection-2.ensures
    (λ x. minus_has c.args.self.now c.args.other.now _ x (c.in_ok-complement.ensures x))
