use Rattle.std.proofs.Common.{◌≡◌, map, take, string_bytes}
use Rattle.guard_notes.specs.Marking.{shown}
use Rattle.guard_notes.proofs.marking.shown_text.Given as goal

abbrev pub invariant-loop-octet : goal.invariant-loop-octet
invariant-loop-octet l = string_bytes l.text ≡ map shown (take l.octet-index l.octets)
