use Rattle.std.proofs.Common.{◌≡◌, drop}
use Rattle.guard_model.specs.ValueView.{fields_view}
use Rattle.guard_report.specs.Shown.{none_there}
use Rattle.guard_report.proofs.noted.are_all_absent.Given as goal

abbrev pub invariant-loop-field : goal.invariant-loop-field
invariant-loop-field l = none_there (fields_view (drop l.field-index l.fields)) ≡ none_there (fields_view l.fields)
