use Rattle.std.proofs.Common.{◌≡◌, ◌++◌, map, take}
use Rattle.guard_names.proofs.recursion.add_pending.Given as goal

abbrev pub invariant-loop-used : goal.invariant-loop-used
invariant-loop-used l = l.into.items ≡ l.fn.into.items ++ map (λ used. record { place = l.place; used = used }) (take l.used-index l.uses)
