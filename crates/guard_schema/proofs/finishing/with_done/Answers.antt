use Rattle.guard_schema.proofs.Filled.Moves.{one_done}
use Rattle.guard_schema.proofs.finishing.with_done.Goals as goal

pub returns : goal.returns
returns c = one_done c.args.filling.done.items c.push.new.self.items c.args.filling.left.items c.args.comp
    c.in_ok-push.ensures.items
