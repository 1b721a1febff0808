use Rattle.std.proofs.Common.{◌≡◌, ◌≤◌, take, length}
use Rattle.guard_values.specs.NamedBits.{to_last_one}
use Rattle.guard_values.proofs.named_bits.to_last_one.Given as goal

abbrev pub invariant-loop-count : goal.invariant-loop-count
invariant-loop-count l = record {
  within : l.count ≤ length l.bits;
  so_far : to_last_one (take l.count l.bits) ≡ to_last_one l.bits;
}

abbrev pub decreases-loop-count : goal.decreases-loop-count
decreases-loop-count l = l.count
