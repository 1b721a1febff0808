use Rattle.std.proofs.Common.{sym, ap}
use Rattle.guard_json.specs.Members.{only_where}
use Rattle.guard_json.proofs.Drafts.{Adds_is, Adds_nothing, Adds_no_form}
use Rattle.guard_json.proofs.draft.Draft.only_where.Goals as goal

pub returns-then-not-holds : goal.returns-then-not-holds
returns-then-not-holds c = Adds_is (Adds_no_form c.args.self.now) (sym (ap only_where c.if-not-holds.true))

pub returns-else-not-holds : goal.returns-else-not-holds
returns-else-not-holds c = Adds_is (Adds_nothing c.args.self.now) (sym (ap only_where c.if-not-holds.false))
