use Rattle.std.proofs.Common.{sym, ◌∙◌}
use Rattle.guard_json.proofs.Drafts.{Adds_then, Adds_else}
use Rattle.guard_json.proofs.members.add_outcome.Goals as goal

pub returns-then-is_undecided : goal.returns-then-is_undecided
returns-then-is_undecided c =
    Adds_then _ c.name.ensures (sym c.is_undecided.ensures ∙ c.if-is_undecided.true)

pub returns-else-is_undecided : goal.returns-else-is_undecided
returns-else-is_undecided c = Adds_else _ c.add_route.ensures (sym c.is_undecided.ensures ∙ c.if-is_undecided.false)
