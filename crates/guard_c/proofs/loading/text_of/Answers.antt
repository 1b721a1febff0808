use Rattle.std.proofs.Common.{◌∙◌, sym}
use Rattle.guard_c.proofs.Faults.{if_some_of}
use Rattle.guard_c.proofs.loading.text_of.Goals as goal

pub returns-then-is_named : goal.returns-then-is_named
returns-then-is_named c = if_some_of c.ok.result (sym c.is_named.ensures ∙ c.if-is_named.true)
