use Rattle.std.proofs.Common.{◌≡◌, ◌++◌, map, drop}
use Rattle.guard_syntax.specs.Trees.{entries_of}
use Rattle.guard_syntax.specs.Views.{entry_view}
use Rattle.guard_names.specs.Mentions as mentions
use Rattle.guard_names.specs.inside.Views.{mention_view}
use Rattle.guard_names.proofs.mentions.+values.Given as goal

abbrev pub invariant-add_entries-loop-entry : goal.invariant-add_entries-loop-entry
invariant-add_entries-loop-entry l =
    map mention_view l.into.items ++ mentions.in_entries (entries_of (map entry_view (drop l.entry-index l.entries)))
    ≡ map mention_view l.fn.into.items ++ mentions.in_entries (entries_of (map entry_view l.entries))
