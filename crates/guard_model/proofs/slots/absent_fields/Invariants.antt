use Rattle.std.proofs.Common.{◌≡◌, map, None}
use Rattle.std.specs.Prelude.{replicate}
use Rattle.guard_model.specs.ValueView.{slot_view}
use Rattle.guard_model.proofs.slots.absent_fields.Given as goal

abbrev pub invariant-loop-comp : goal.invariant-loop-comp
invariant-loop-comp l = map slot_view l.fields.items ≡ replicate l._comp-index None
