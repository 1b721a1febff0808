use Rattle.std.proofs.Common.{◌≡◌, ◌-◌}
use Rattle.guard_report.specs.Places.{element_with}
use Rattle.guard_report.proofs.places.element_with.Given as goal

abbrev pub invariant-loop : goal.invariant-loop
invariant-loop l = element_with l.octets l.tag (l.tries - l.counter) l.at ≡ element_with l.octets l.tag l.tries l.fn.from
