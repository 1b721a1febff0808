use Rattle.std.proofs.Common.{rules}
use Rattle.guard_model.proofs.ValueViews.{value_view_fields}
use Rattle.guard_eval.proofs.presence.part_at.Goals as goal

pub returns-in-Fields : goal.returns-in-Fields
returns-in-Fields c = search (rules, value_view_fields)
