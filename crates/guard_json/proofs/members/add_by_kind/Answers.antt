use Rattle.std.proofs.Common.{sym, ap, ◌∙◌}
use Rattle.guard_json.specs.Members.{link_in, said_in, members_by}
use Rattle.guard_json.proofs.Drafts.{Adds_is}
use Rattle.guard_json.proofs.members.add_by_kind.Goals as goal

pub returns-in-Linked : goal.returns-in-Linked
returns-in-Linked c =
    Adds_is c.add_link.ensures (ap link_in c.behind.ensures ∙ sym (ap (λ k. members_by k c.args.line.now) c.in-Linked.is))

pub returns-in-Said : goal.returns-in-Said
returns-in-Said c =
    Adds_is c.add_said.ensures (ap said_in c.behind-in-Said.ensures ∙ sym (ap (λ k. members_by k c.args.line.now) c.in-Said.is))

pub returns-in-Numbered : goal.returns-in-Numbered
returns-in-Numbered c = Adds_is c.add_frame.ensures (sym (ap (λ k. members_by k c.args.line.now) c.in-Numbered.is))

pub returns-in-Bare : goal.returns-in-Bare
returns-in-Bare c = Adds_is c.add_verdict.ensures (sym (ap (λ k. members_by k c.args.line.now) c.in-Bare.is))
