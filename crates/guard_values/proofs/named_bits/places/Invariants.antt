use Rattle.std.proofs.Common.{◌≡◌, drop, map}
use Rattle.guard_model.specs.inside.Each.{each}
use Rattle.guard_model.proofs.Loops.{with_front}
use Rattle.guard_syntax.specs.Views.{entry_view}
use Rattle.guard_values.specs.inside.Reading.{read_place}
use Rattle.guard_values.proofs.named_bits.places.Given as goal

abbrev pub invariant-loop-entry : goal.invariant-loop-entry
invariant-loop-entry l =
    with_front l.places.items (each (read_place l.names) (map entry_view (drop l.entry-index l.entries))) ≡ each (read_place l.names) (map entry_view l.entries)
