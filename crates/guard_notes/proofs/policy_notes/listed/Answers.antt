use Rattle.toml.proofs.Views.{table_get}
use Rattle.guard_notes.proofs.policy_notes.listed.Goals as goal

pub returns : goal.returns
returns c = rw (← c.text.ensures) (table_get c.get.result c.text.result.now c.args.top.now.entries c.get.ensures.value)
