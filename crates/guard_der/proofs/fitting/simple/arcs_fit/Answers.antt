use Rattle.std.proofs.Common.{◌∙◌, arith}
use Rattle.guard_der.proofs.Functions.SimpleValues.{two_arcs}
use Rattle.guard_der.proofs.fitting.simple.arcs_fit.Goals as goal

pub returns-in-len2-up : goal.returns-in-len2-up
returns-in-len2-up c = c.first_two_fit.ensures ∙ two_arcs c.args.arcs.now c.in-len2-up.len_at_least (λ i _. omega (arith, c.type_inv.arcs i))
