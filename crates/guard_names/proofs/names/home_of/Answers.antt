use Rattle.std.proofs.Common.{Some, arith, sym, ap, ◌∙◌}
use Rattle.std.proofs.lemmas.Option.{slice_get-get_or}
use Rattle.guard_names.proofs.Declared.LookedUp.{read}
use Rattle.guard_names.proofs.Declared.HomePlaces.{home_here, home_later}
use Rattle.guard_names.proofs.names.home_of.Goals as goal

pub returns-in-Some-clause-home : goal.returns-in-Some-clause-home
returns-in-Some-clause-home c =
    home_here c.args.modules.now c.loop-place.place c.index-modules-place.result c.loop-place-test.true c.index-modules-place.is c.loop-place.left _ c.loop-place.invariant c.in-Some.assignment.now
    (rw c.deref.ensures.value at (sym (read c.deref.result.now c.loop-place.left (Some c.in-Some.assignment) c.in-Some.ensures.lookup)))

pub returns-in-Some-clause-place : goal.returns-in-Some-clause-place
returns-in-Some-clause-place c =
    slice_get-get_or c.args.modules.now c.loop-place.place c.index-modules-place.result c.loop-place-test.true ∙ ap Some (sym c.index-modules-place.is)

pub loop-place-preserved : goal.loop-place-preserved
loop-place-preserved c =
    home_later c.args.modules.now c.loop-place.place c.index-modules-place.result c.loop-place-test.true c.index-modules-place.is c.loop-place.left _ c.loop-place.invariant c.len-left.result
    (omega (arith, c.len-left.ensures, c.index-modules-place.result.assignments.ok)) (rw c.deref.ensures.value at c.in_default.ensures.lookup.3)
