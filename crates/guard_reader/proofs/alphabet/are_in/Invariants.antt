use Rattle.std.proofs.Common.{◌≡◌, drop}
use Rattle.std.specs.List.{list_all}
use Rattle.guard_eval.specs.Elements.{is_in_some}
use Rattle.guard_reader.proofs.alphabet.are_in.Given as goal

abbrev pub invariant-loop-octet : goal.invariant-loop-octet
invariant-loop-octet l = list_all (is_in_some l.ranges) (drop l.octet-index l.octets) ≡ list_all (is_in_some l.ranges) l.octets
