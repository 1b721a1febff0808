use Rattle.std.proofs.Common.{◌≡◌, ◌++◌, drop, map}
use Rattle.guard_model.specs.TypeView.{constraint_view, constraints_of}
use Rattle.guard_notes.specs.Sources.{sources_view}
use Rattle.guard_files.specs.Places.{places_in}
use Rattle.guard_messages.specs.Reasons.{lines_of_places}
use Rattle.guard_messages.proofs.reasons.constraint_lines.Given as goal

-- what is written, with the lines of those that are left, is the lines of all
abbrev pub invariant-loop-constraint : goal.invariant-loop-constraint
invariant-loop-constraint l =
    l.lines.items ++ lines_of_places (sources_view l.sources) (places_in (constraints_of (map constraint_view (drop l.constraint-index l.constraints))))
    ≡ lines_of_places (sources_view l.sources) (places_in (constraints_of (map constraint_view l.constraints)))
