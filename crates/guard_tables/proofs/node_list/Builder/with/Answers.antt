use Rattle.guard_tables.proofs.Growing.{built_more}
use Rattle.guard_tables.proofs.node_list.Builder.with.Goals as goal

pub invariant_of-result : goal.invariant_of-result
invariant_of-result c =
    record { built = rw (c.in_ok-push.ensures.items, c.in_ok-push-2.ensures.items) (built_more c.args.self.hots.items c.args.self.colds.items c.args.hot c.args.cold c.args.self.built c.requires) }
