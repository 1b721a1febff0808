use Rattle.std.proofs.Common.{◌≡◌, ◌++◌, drop}
use Rattle.guard_authors.specs.Testing.{digits_in}
use Rattle.guard_authors.proofs.testing.digits_in.Given as goal

abbrev pub invariant-loop-octet : goal.invariant-loop-octet
invariant-loop-octet l = l.digits.items ++ digits_in (drop l.octet-index l.octets) ≡ digits_in l.octets
