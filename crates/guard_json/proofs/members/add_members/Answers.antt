use Rattle.std.proofs.Common.{ap}
use Rattle.guard_json.specs.Members.{members_by}
use Rattle.guard_json.proofs.Drafts.{Adds_is}
use Rattle.guard_json.proofs.members.add_members.Goals as goal

pub returns : goal.returns
returns c = Adds_is c.add_by_kind.ensures (ap (λ k. members_by k c.args.line.now) c.of.ensures)
