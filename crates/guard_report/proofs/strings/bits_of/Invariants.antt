use Rattle.std.proofs.Common.{◌≡◌, ◌++◌, drop, flat_map}
use Rattle.guard_report.specs.Strings.{eight_bits}
use Rattle.guard_report.proofs.strings.bits_of.Given as goal

abbrev pub invariant-loop-octet : goal.invariant-loop-octet
invariant-loop-octet l =
    l.list.items ++ flat_map eight_bits (drop l.octet-index l.octet-items) ≡ flat_map eight_bits l.octet-items
