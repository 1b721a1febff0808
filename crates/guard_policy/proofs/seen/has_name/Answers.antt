use Rattle.std.proofs.Common.{sym, ◌∙◌}
use Rattle.guard_policy.proofs.NamesSeen.{any_now}
use Rattle.guard_policy.proofs.seen.has_name.Goals as goal

pub returns : goal.returns
returns c = c.contains.ensures ∙ sym (any_now c.args.name.now c.args.names.now.keys)
