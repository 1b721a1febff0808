use Rattle.std.proofs.Common.{◌≡◌, ◌++◌, drop, map}
use Rattle.guard_model.specs.TypeView.{type_view}
use Rattle.guard_model.specs.ValueView.{value_view}
use Rattle.guard_eval.specs.Violations.{shortfall_view}
use Rattle.guard_notes.specs.Sources.{sources_view}
use Rattle.guard_messages.specs.Reasons.{shortfall_lines}
use Rattle.guard_messages.proofs.reasons.add_shortfalls.Given as goal

-- what is written, with the lines of those that are left, is the lines of all
abbrev pub invariant-loop-shortfall : goal.invariant-loop-shortfall
invariant-loop-shortfall l =
    l.note.items ++ shortfall_lines (sources_view l.sources) (type_view l.ty) (value_view l.value) (map shortfall_view (drop l.shortfall-index l.shortfalls))
    ≡ l.initial.note.items ++ shortfall_lines (sources_view l.sources) (type_view l.ty) (value_view l.value) (map shortfall_view l.shortfalls)
