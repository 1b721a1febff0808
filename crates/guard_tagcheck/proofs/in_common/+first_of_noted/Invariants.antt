use Rattle.std.proofs.Common.{◌≡◌}
use Rattle.guard_model.specs.AbstractType.{AbstractType}
use Rattle.guard_model.proofs.Components.{left}
use Rattle.guard_tagcheck.specs.InCommon.{tag_of_one}
use Rattle.guard_tagcheck.specs.inside.Noting.{noted, AreNoted}
use Rattle.guard_tagcheck.proofs.in_common.+first_of_noted.Given as goal

abbrev pub invariant-first_noted_of-loop-alternative : goal.invariant-first_noted_of-loop-alternative
invariant-first_noted_of-loop-alternative l = (b : AbstractType) → AreNoted (noted l.notes.entries) b → tag_of_one (left l.alternatives l.alternative-index) b ≡ tag_of_one (left l.alternatives 0) b
