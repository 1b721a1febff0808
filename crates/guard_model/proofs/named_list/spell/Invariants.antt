use Rattle.std.proofs.Common.{◌≡◌, ◌++◌, drop}
use Rattle.guard_model.specs.inside.Spelled.{spelled_name}
use Rattle.guard_model.proofs.named_list.spell.Given as goal

abbrev pub invariant-loop-octet : goal.invariant-loop-octet
invariant-loop-octet l = l.octets.items ++ spelled_name (drop l.octet-index l.name) ≡ l.fn.octets.items ++ spelled_name l.name
