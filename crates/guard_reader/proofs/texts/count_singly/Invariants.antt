use Rattle.std.proofs.Common.{◌≡◌, take}
use Rattle.std.specs.List.{count_by}
use Rattle.guard_reader.specs.inside.Firsts.{is_first}
use Rattle.guard_reader.proofs.texts.count_singly.Given as goal

abbrev pub invariant-loop-octet : goal.invariant-loop-octet
invariant-loop-octet l = l.count ≡ count_by is_first (take l.octet-index l.octets)
