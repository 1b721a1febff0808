use Rattle.std.proofs.Common.{◌||◌}
use Rattle.guard_integers.specs.Integers.{holds}
use Rattle.guard_integers.proofs.RangeLists.AsSets.{holds_as, union_has}
use Rattle.guard_integers.proofs.int_set.IntSet.union.Goals as goal

pub returns : goal.returns
returns c =
    holds_as c.complement-3.result _ (λ x. holds c.args.self.now x || holds c.args.other.now x) c.complement-3.ensures
    (λ x. union_has c.args.self.now c.args.other.now _ _ _ x (c.in_ok-complement.ensures x) (c.in_ok-complement-2.ensures x) (c.in_ok-neither.ensures x))
