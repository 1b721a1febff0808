use Rattle.std.proofs.Common.{refl}
use Rattle.guard_eval.proofs.WholeSets.{if_ok}
use Rattle.guard_eval.proofs.number_sets.own_items.Goals as goal

pub returns : goal.returns
returns c = if_ok c.set_of_gathered.result _ _ (λ set h kind z. h kind refl z) c.set_of_gathered.ensures
