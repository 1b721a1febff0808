use Rattle.std.proofs.Common.{◌≡◌, false, take, get_or}
use Rattle.std.specs.List.{list_all}
use Rattle.guard_eval.proofs.elements.are_marked.Given as goal

abbrev pub invariant-loop-octet : goal.invariant-loop-octet
invariant-loop-octet l = l.all ≡ list_all (λ octet. get_or l.known octet false) (take l.octet-index l.octets)
