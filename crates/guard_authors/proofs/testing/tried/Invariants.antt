use Rattle.std.proofs.Common.{◌≤◌, ◌+◌, drop}
use Rattle.toml.specs.View.{items_view}
use Rattle.guard_files.specs.Reading.{loaded_view}
use Rattle.guard_authors.proofs.TriedCases.{Continues}
use Rattle.guard_authors.proofs.testing.tried.Given as goal

abbrev pub invariant-loop-place : goal.invariant-loop-place
invariant-loop-place l = record {
  few : l.failed ≤ l.place;
  so_far : Continues (loaded_view l.loaded) (l.place + 1) (items_view (drop l.place l.items)) l.lines.items l.failed l.reached.items (items_view l.items);
}
