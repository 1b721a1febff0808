use Rattle.std.proofs.Common.{map, refl}
use Rattle.guard_syntax.specs.Trees.{entries_of}
use Rattle.guard_syntax.specs.Views.{entry_view}
use Rattle.guard_names.specs.Mentions as mentions
use Rattle.guard_names.proofs.Mentioned.Gathering.{one_more, all_gathered}
use Rattle.guard_names.proofs.mentions.+values.Goals as goal

pub add_entries-loop-entry-init : goal.add_entries-loop-entry-init
add_entries-loop-entry-init t c = refl

pub add_entries-loop-entry-preserved : goal.add_entries-loop-entry-preserved
add_entries-loop-entry-preserved t c =
    one_more (λ xs. mentions.in_entries (entries_of (map entry_view xs))) c.args.entries.now c.loop-entry.entry-index _
    c.entry-item.result _ _ _ c.loop-entry-test.true c.entry-item.is c.in_ok-add_entry.ensures c.loop-entry.invariant refl

pub add_entries-returns : goal.add_entries-returns
add_entries-returns t c =
    all_gathered (λ xs. mentions.in_entries (entries_of (map entry_view xs))) c.args.entries.now c.loop-entry.entry-index _ _ c.loop-entry-test.false refl c.loop-entry.invariant
