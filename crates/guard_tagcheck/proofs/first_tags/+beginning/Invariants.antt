use Rattle.std.proofs.Common.{◌≡◌}
use Rattle.guard_tagcheck.specs.FirstTags.{one_begins_with}
use Rattle.guard_model.proofs.Components.{left}
use Rattle.guard_tagcheck.proofs.first_tags.+beginning.Given as goal

abbrev pub invariant-one_begins_with-loop-alternative : goal.invariant-one_begins_with-loop-alternative
invariant-one_begins_with-loop-alternative l = one_begins_with (left l.alternatives l.alternative-index) l.tag ≡ one_begins_with (left l.alternatives 0) l.tag
