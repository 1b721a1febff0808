use Rattle.std.proofs.Common.{◌≡◌, ◌++◌, ◌+◌, ◌≤◌, length}
use Rattle.guard_notes.specs.Lines.{lines_of}
use Rattle.guard_notes.specs.PolicyNotes.{lines_with}
use Rattle.guard_notes.proofs.headers.lines_with.Given as goal

abbrev pub invariant-loop-rest : goal.invariant-loop-rest
invariant-loop-rest l = record {
  -- those found, and those of the lines that are left
  found : l.found.items ++ lines_with l.mark l.number (lines_of l.rest) ≡ lines_with l.mark 1 (lines_of l.text);
  few : l.number + length l.rest ≤ 1 + length l.text;
}

abbrev pub decreases-loop-rest : goal.decreases-loop-rest
decreases-loop-rest l = length l.rest
