use Rattle.std.proofs.Common.{◌+◌, codes, length}
use Rattle.guard_model.specs.TypeView.{type_view}
use Rattle.guard_messages.specs.PartsBefore.{message}
use Rattle.guard_messages.specs.inside.Spots.{HoldsSound, IsNumbered, due_view, spot_in_view}
use Rattle.guard_messages.proofs.Spots.{GoesOn}
use Rattle.guard_messages.proofs.parts_before.lines_before.Given as goal

abbrev pub invariant-loop : goal.invariant-loop
invariant-loop l = record {
  so_far : GoesOn l.octets l.breach (length l.octets + 64) l.counter (record { at = 0; way = codes "$"; due = message (type_view l.ty) }) (spot_in_view l.spot) l.lines.items;
  sound : HoldsSound (due_view l.spot.due);
  few : IsNumbered l.counter (due_view l.spot.due);
}
