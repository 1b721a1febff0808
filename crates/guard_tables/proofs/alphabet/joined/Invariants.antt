use Rattle.std.proofs.Common.{◌≡◌, ◌||◌, ◌<◌, ℕ, IsTrue, drop, length, get_or}
use Rattle.guard_eval.specs.Elements.{is_in_some}
use Rattle.guard_tables.specs.Alphabets.{are_apart}
use Rattle.guard_tables.specs.inside.JoinedRanges.{begin_by}
use Rattle.guard_tables.proofs.alphabet.joined.Given as goal

-- with the characters of those to come they have all
abbrev pub invariant-loop-low : goal.invariant-loop-low
invariant-loop-low l = record {
  apart : IsTrue (are_apart l.ranges.items);
  order : (d : ℕ × ℕ) → l.low-index < length l.ordered → IsTrue (begin_by (get_or l.ordered l.low-index d).0 l.ranges.items);
  same : (c : ℕ) → (is_in_some l.ranges.items c || is_in_some (drop l.low-index l.ordered) c) ≡ is_in_some l.ordered c;
}
