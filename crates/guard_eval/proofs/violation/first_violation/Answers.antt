use Rattle.std.proofs.Common.{◌∙◌, [], Some, None}
use Rattle.guard_model.specs.TypeView.{type_view}
use Rattle.guard_model.specs.ValueView.{value_view}
use Rattle.guard_eval.proofs.Soundness.{sound_keeps_base, sound_within_limits}
use Rattle.guard_eval.proofs.Calls.{member_by_walk}
use Rattle.guard_eval.proofs.Walk.{walked}
use Rattle.guard_eval.proofs.Paths.{whole_path}
use Rattle.guard_eval.proofs.violation.first_violation.Goals as goal

pub returns-in-Some-clause-first : goal.returns-in-Some-clause-first
returns-in-Some-clause-first c =
    let t = type_view c.args.ty.now in
    let v = value_view c.args.value.now in
    c.in-Some.ensures ∙ walked t v (sound_keeps_base t c.requires.sound) c.requires.fits ∙ whole_path t v (sound_within_limits t c.requires.sound) c.requires.fits

pub returns-in-None-clause-first : goal.returns-in-None-clause-first
returns-in-None-clause-first c =
    let t = type_view c.args.ty.now in
    let v = value_view c.args.value.now in
    c.in-None.ensures ∙ walked t v (sound_keeps_base t c.requires.sound) c.requires.fits ∙ whole_path t v (sound_within_limits t c.requires.sound) c.requires.fits

pub returns-in-Some-clause-none : goal.returns-in-Some-clause-none
returns-in-Some-clause-none c =
    member_by_walk (type_view c.args.ty.now) (value_view c.args.value.now) _ (Some c.in-Some.site) (sound_keeps_base (type_view c.args.ty.now) c.requires.sound) c.requires.fits c.in-Some.ensures

pub returns-in-None-clause-none : goal.returns-in-None-clause-none
returns-in-None-clause-none c =
    member_by_walk (type_view c.args.ty.now) (value_view c.args.value.now) [] None (sound_keeps_base (type_view c.args.ty.now) c.requires.sound) c.requires.fits c.in-None.ensures
