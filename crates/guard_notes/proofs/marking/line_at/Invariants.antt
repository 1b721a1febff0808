use Rattle.std.proofs.Common.{◌≡◌, ◌≤◌, ◌+◌, ◌-◌, ℕ}
use Rattle.std.specs.Prelude.{slice_get}
use Rattle.guard_notes.specs.Lines.{lines_of}
use Rattle.guard_notes.proofs.marking.line_at.Given as goal

abbrev pub invariant-loop : goal.invariant-loop
invariant-loop l = record {
  lines : (k : ℕ) → slice_get (lines_of l.rest) k ≡ slice_get (lines_of l.text) (k + (l.counter - 1));
  far : l.counter - 1 ≤ l.number - 1;
}
