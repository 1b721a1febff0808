use Rattle.guard_integers.proofs.RangeLists.CommonParts.{common_apart}
use Rattle.guard_integers.proofs.RangeLists.AsSets.{intersection_has}
use Rattle.guard_integers.proofs.int_set.IntSet.intersection.Goals as goal

pub invariant_of-result : goal.invariant_of-result
invariant_of-result c =
    rw c.in_ok-ranges.ensures (rw c.deref.ensures.value (rw c.deref-2.ensures.value
    (common_apart c.self.inside.ranges.items c.other.inside.ranges.items c.self.invariant c.other.invariant)))

pub returns : goal.returns
returns c = λ x.
    rw (c.in_ok-ranges.ensures, ← c.self.view_is, ← c.other.view_is) (rw c.deref.ensures.value (rw c.deref-2.ensures.value
    (intersection_has c.self.inside.ranges.items c.other.inside.ranges.items x c.self.invariant c.other.invariant)))
