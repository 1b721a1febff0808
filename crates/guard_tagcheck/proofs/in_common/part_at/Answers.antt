use Rattle.std.proofs.Common.{◌∙◌}
use Rattle.guard_model.specs.TypeView.{kind_view}
use Rattle.guard_tagcheck.proofs.PartsAt.{part_there}
use Rattle.guard_tagcheck.proofs.in_common.part_at.Goals as goal

pub returns-in-Component : goal.returns-in-Component
returns-in-Component c = rw c.in-Component.is (c.part.ensures ∙ part_there (kind_view c.args.kind.now) c.in-Component.place)
