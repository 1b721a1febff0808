use Rattle.guard_integers.proofs.RangeLists.AsSets.{none_has}
use Rattle.guard_integers.proofs.int_set.IntSet.none.Goals as goal

pub returns : goal.returns
returns c = λ x. rw c.new.ensures.items (none_has x)
