use Rattle.std.proofs.Common.{◌≡◌, drop}
use Rattle.guard_tagcheck.specs.Limits.{are_low}
use Rattle.guard_der.proofs.sound_types.forms.are_low.Given as goal

abbrev pub invariant-loop-tag : goal.invariant-loop-tag
invariant-loop-tag l = are_low (drop l.tag-index l.tags) ≡ are_low l.tags
