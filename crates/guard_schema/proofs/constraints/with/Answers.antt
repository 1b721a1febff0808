use Rattle.std.proofs.Common.{◌∙◌}
use Rattle.guard_schema.proofs.Filled.Lists.{with_view}
use Rattle.guard_schema.proofs.constraints.with.Goals as goal

pub returns : goal.returns
returns c = c.type_made_of.ensures ∙ with_view c.args.ty c.push.new.self.items c.args.cons c.in_ok-push.ensures.items
