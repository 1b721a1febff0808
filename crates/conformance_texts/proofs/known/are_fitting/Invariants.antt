use Rattle.std.proofs.Common.{◌<◌, ℕ}
use Rattle.std.specs.Prelude.{IsTrue, IfSome}
use Rattle.guard_der.specs.Fits.{fits}
use Rattle.guard_values.specs.Views.{known_at}
use Rattle.conformance_texts.proofs.known.are_fitting.Given as goal

abbrev pub invariant-loop-place : goal.invariant-loop-place
invariant-loop-place l = (k : ℕ) → k < l.place → IfSome (known_at l.known k) (λ g. IsTrue (fits g.ty g.value))
