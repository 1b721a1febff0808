use Rattle.std.proofs.Common.{◌≡◌, take}
use Rattle.std.specs.List.{count_by}
use Rattle.guard_eval.specs.inside.Characters.{begins_one}
use Rattle.guard_eval.proofs.elements.count_beginnings.Given as goal

abbrev pub invariant-loop-octet : goal.invariant-loop-octet
invariant-loop-octet l = l.count ≡ count_by begins_one (take l.octet-index l.octets)
