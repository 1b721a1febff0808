use Rattle.std.proofs.Common.{◌≡◌, ◌++◌, drop, flat_map}
use Rattle.guard_report.specs.Strings.{two_digits}
use Rattle.guard_report.proofs.strings.add_hexadecimal.Given as goal

abbrev pub invariant-loop-octet : goal.invariant-loop-octet
invariant-loop-octet l =
    l.text.items ++ flat_map two_digits (drop l.octet-index l.octets) ≡ l.initial.text.items ++ flat_map two_digits l.octets
