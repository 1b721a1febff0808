use Rattle.std.proofs.Common.{◌≤◌, ℕ, length, arith}
use Rattle.std.specs.Prelude.{IsTrue, IfSome}
use Rattle.std.proofs.lemmas.Option.{slice_get_past}
use Rattle.guard_der.specs.Fits.{fits}
use Rattle.guard_values.specs.declared.scope.Known.{Known}
use Rattle.guard_values.specs.Views.{known_at}
use Rattle.conformance_texts.proofs.Places.{up_to, everywhere}
use Rattle.conformance_texts.proofs.known.are_fitting.Goals as goal

abbrev FitsAt : Known → ℕ → Type 0
FitsAt known place = IfSome (known_at known place) (λ g. IsTrue (fits g.ty g.value))

past : (known : Known) (place : ℕ) → length known.types.items ≤ place → FitsAt known place
past known place le = rw (slice_get_past known.types.items place le) tt

pub loop-place-preserved : goal.loop-place-preserved
loop-place-preserved c = λ k lt. up_to (FitsAt c.args.known.now) c.loop-place.place k c.loop-place.invariant (c.fits_at.ensures c.if-not-fits_at.false) lt

pub returns : goal.returns
returns c = λ e place. everywhere (FitsAt c.args.known.now) c.loop-place.place place c.loop-place.invariant
    (λ le. past c.args.known.now place (omega (arith, le, c.len-place-end.ensures, c.loop-place-test.false)))
