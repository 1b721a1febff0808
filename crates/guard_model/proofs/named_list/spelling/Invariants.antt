use Rattle.std.proofs.Common.{◌≡◌, ◌++◌, drop, map}
use Rattle.guard_model.specs.NamedLists.{named_view}
use Rattle.guard_model.specs.inside.Spelled.{spelled}
use Rattle.guard_model.proofs.named_list.spelling.Given as goal

abbrev pub invariant-loop-entry : goal.invariant-loop-entry
invariant-loop-entry l = l.octets.items ++ spelled (map named_view (drop l.entry-index l.entries)) ≡ spelled (map named_view l.entries)
