use Rattle.std.proofs.Common.{ℕ, ◌<◌, length, get_or}
use Rattle.guard_names.specs.inside.Searches.{no_part}
use Rattle.guard_names.proofs.recursion.join.Given as goal

abbrev pub invariant-loop-last : goal.invariant-loop-last
invariant-loop-last l = record {
  here : l.last < length l.parts.items;
  after : (i : ℕ) → l.last < i → i < length l.parts.items → l.place < (get_or l.parts.items i no_part).start;
}

abbrev pub decreases-loop-last : goal.decreases-loop-last
decreases-loop-last l = l.last
