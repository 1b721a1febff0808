use Rattle.guard_model.specs.Limits.{fits_128_bits}
use Rattle.guard_integers.proofs.RangeLists.AsSets.{holds_as, all_has}
use Rattle.guard_integers.proofs.int_set.IntSet.all.Goals as goal

pub returns : goal.returns
returns c = holds_as c.complement-2.result _ (λ x. fits_128_bits x) c.complement-2.ensures (λ x. all_has _ x (c.none.ensures x))
