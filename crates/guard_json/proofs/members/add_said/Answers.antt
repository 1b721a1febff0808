use Rattle.std.proofs.Common.{sym, ◌∙◌}
use Rattle.guard_json.proofs.Drafts.{Adds_then, Adds_else}
use Rattle.guard_json.proofs.members.add_said.Goals as goal

pub returns-then-is_fault : goal.returns-then-is_fault
returns-then-is_fault c =
    Adds_then _ c.text.ensures (sym c.is_fault.ensures ∙ c.if-is_fault.true)

pub returns-else-is_fault : goal.returns-else-is_fault
returns-else-is_fault c =
    Adds_else _ c.text-else-is_fault.ensures (sym c.is_fault.ensures ∙ c.if-is_fault.false)
