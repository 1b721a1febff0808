use Rattle.std.proofs.Common.{◌≡◌, ◌++◌, true, drop, map}
use Rattle.guard_model.specs.TypeView.{named_view}
use Rattle.guard_report.specs.declared.layout.Layout.TheVariants.{Line}
use Rattle.guard_report.specs.Layouts.{parts_from}
use Rattle.guard_report.specs.Strings.{names_of_ones}
use Rattle.guard_report.proofs.strings.add_names.Given as goal

-- what is written, with the names of the bits that are left, is the text of all
abbrev pub invariant-loop-at : goal.invariant-loop-at
invariant-loop-at l =
    l.text.items ++ parts_from Line l.is_first (names_of_ones (map named_view l.names) l.at (drop l.at l.bits))
    ≡ l.initial.text.items ++ parts_from Line true (names_of_ones (map named_view l.names) 0 l.bits)
