use Rattle.std.proofs.Common.{◌+◌, ◌*◌}
use Rattle.guard_syntax.specs.inside.Cursors.{ahead}
use Rattle.guard_syntax.specs.inside.ReadValues.{read_value, read_entry}
use Rattle.guard_syntax.specs.Views.{entry_view}
use Rattle.guard_syntax.proofs.Loops.{PartedSoFar}
use Rattle.guard_syntax.proofs.values.+values.Given as goal

abbrev pub decreases-value : goal.decreases-value
decreases-value l = l.levels * 8

abbrev pub decreases-form : goal.decreases-form
decreases-form l = l.levels * 8 + 7

abbrev pub decreases-braces : goal.decreases-braces
decreases-braces l = l.levels * 8 + 6

abbrev pub decreases-name : goal.decreases-name
decreases-name l = l.levels * 8 + 1

abbrev pub decreases-entries : goal.decreases-entries
decreases-entries l = l.levels * 8 + 5

abbrev pub decreases-some_entries : goal.decreases-some_entries
decreases-some_entries l = l.levels * 8 + 4

abbrev pub decreases-entry : goal.decreases-entry
decreases-entry l = l.levels * 8 + 3

abbrev pub invariant-some_entries-loop : goal.invariant-some_entries-loop
invariant-some_entries-loop l = PartedSoFar entry_view (read_entry (read_value l.levels)) (ahead l.at) l.all.items l.counter (ahead l.rest)
