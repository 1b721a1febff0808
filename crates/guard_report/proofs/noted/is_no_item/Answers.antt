use Rattle.std.proofs.Common.{arith}
use Rattle.guard_report.proofs.Items.{some_item}
use Rattle.guard_report.proofs.noted.is_no_item.Goals as goal

pub returns-in-len1-up : goal.returns-in-len1-up
returns-in-len1-up c = some_item c.args.items.now (omega (arith, c.in-len1-up.len_at_least))
