use Rattle.std.proofs.Common.{refl}
use Rattle.guard_integers.specs.inside.Computing.{least}
use Rattle.guard_integers.proofs.RangeLists.Gaps.{gaps_apart}
use Rattle.guard_integers.proofs.RangeLists.AsSets.{complement_has}
use Rattle.guard_integers.proofs.int_set.IntSet.complement.Goals as goal

pub invariant_of-result : goal.invariant_of-result
invariant_of-result c = rw c.in_ok-ranges.ensures (rw c.deref.ensures.value (gaps_apart least c.self.inside.ranges.items c.self.invariant refl))

pub returns : goal.returns
returns c = λ x. rw (c.in_ok-ranges.ensures, ← c.self.view_is) (rw c.deref.ensures.value (complement_has c.self.inside.ranges.items x c.self.invariant))
