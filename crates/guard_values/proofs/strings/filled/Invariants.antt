use Rattle.std.proofs.Common.{◌≡◌, ◌<◌, ◌+◌, ◌-◌, ◌*◌, ◌^◌, drop}
use Rattle.guard_values.specs.Strings.{filled}
use Rattle.guard_values.proofs.strings.filled.Given as goal

abbrev pub invariant-loop-place : goal.invariant-loop-place
invariant-loop-place l = record {
  so_far : l.number * l.base ^ (l.places - l.place) + filled l.base (l.places - l.place) (drop l.place l.digits) ≡ filled l.base l.places l.digits;
  small : l.number < l.base ^ l.place;
}
