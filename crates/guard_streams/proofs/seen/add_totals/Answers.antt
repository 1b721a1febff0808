use Rattle.std.proofs.Common.{◌∙◌, append_assoc}
use Rattle.guard_streams.proofs.Doings.{told_ok}
use Rattle.guard_streams.proofs.seen.add_totals.Goals as goal

pub returns : goal.returns
returns c = told_ok c.write.result c.write.ensures.bytes (λ last. last ∙ simp append_assoc)
