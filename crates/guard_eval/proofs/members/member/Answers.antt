use Rattle.std.proofs.Common.{◌∙◌}
use Rattle.guard_model.specs.TypeView.{type_view}
use Rattle.guard_model.specs.ValueView.{value_view}
use Rattle.guard_eval.proofs.Soundness.{sound_keeps_base}
use Rattle.guard_eval.proofs.Calls.{not_some, member_by_walk}
use Rattle.guard_eval.proofs.members.member.Goals as goal

pub returns : goal.returns
returns c =
    not_some c.failure.result c.is_none.result c.is_none.ensures
    ∙ member_by_walk (type_view c.args.ty.now) (value_view c.args.value.now) _ c.failure.result (sound_keeps_base (type_view c.args.ty.now) c.requires.sound) c.requires.fits c.failure.ensures
