use Rattle.std.proofs.Common.{ℤ, ◌≡◌, true}
use Rattle.guard_integers.specs.Integers.{holds}
use Rattle.guard_tables.specs.inside.Intervals.{IsWithin}
use Rattle.guard_tables.proofs.plain_interval.widest.Given as goal

abbrev pub invariant-loop : goal.invariant-loop
invariant-loop l = record {
  best : (z : ℤ) → IsWithin l.best z → IsWithin l.fn.passed z × (holds l.set z ≡ true);
  left : (z : ℤ) → IsWithin l.left z → IsWithin l.fn.passed z;
}
