use Rattle.std.proofs.Common.{rules, Some}
use Rattle.std.proofs.lemmas.Bool.Decides.{Decides-eqb}
use Rattle.std.proofs.lemmas.Slice.Eq.{strip_prefix_is}
use Rattle.guard_frames.proofs.last_route.LastRoute.found.Goals as goal

pub returns : goal.returns
returns c = (
  c.args.self.now.header.items,
  search rules,
  rw c.as_slice.ensures.value at (strip_prefix_is Decides-eqb c.args.body.now c.as_slice.result.now (Some c.in_ok-message.message) c.in_ok-message.ensures.cases),
)
