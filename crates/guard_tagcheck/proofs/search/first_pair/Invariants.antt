use Rattle.std.proofs.Common.{◌≡◌}
use Rattle.guard_tagcheck.specs.Search.{first_pair}
use Rattle.guard_model.proofs.Components.{left}
use Rattle.guard_tagcheck.proofs.search.first_pair.Given as goal

abbrev pub invariant-loop-index : goal.invariant-loop-index
invariant-loop-index l = first_pair l.in_sequence l.index (left l.comps l.index) ≡ first_pair l.in_sequence 0 (left l.comps 0)
