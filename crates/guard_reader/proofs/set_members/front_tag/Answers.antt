use Rattle.std.proofs.Common.{◌∙◌, sym}
use Rattle.guard_reader.proofs.LowTags.{nothing}
use Rattle.guard_reader.proofs.set_members.front_tag.Goals as goal

pub returns-then-is_empty : goal.returns-then-is_empty
returns-then-is_empty c = nothing c.args.octets.now (sym c.is_empty.ensures ∙ c.if-is_empty.true)
