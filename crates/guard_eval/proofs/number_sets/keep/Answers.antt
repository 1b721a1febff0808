use Rattle.std.proofs.Common.{List, ap, ◌∙◌}
use Rattle.guard_integers.specs.Integers.{Integers, some_holds}
use Rattle.guard_eval.proofs.WholeSets.{one_set_more}
use Rattle.guard_eval.proofs.number_sets.keep.Goals as goal

pub returns : goal.returns
returns c = λ z.
    ap (λ (sets : List Integers). some_holds sets z) c.in_ok-push.ensures.items ∙ one_set_more c.loop.sets.items c.loop.joined z ∙ c.loop.invariant z
