use Rattle.std.proofs.Common.{◌∙◌}
use Rattle.guard_model.specs.TypeView.{type_view}
use Rattle.guard_model.specs.ValueView.{value_view}
use Rattle.guard_eval.proofs.ManyValues.{keeps_is_member}
use Rattle.guard_eval.proofs.Soundness.{sound_keeps_base}
use Rattle.guard_eval.proofs.WholeSets.{if_ok}
use Rattle.guard_eval.proofs.together.member_of.Goals as goal

pub returns : goal.returns
returns c =
    let t = type_view c.args.ty.now in
    if_ok c.all_keep.result _ _ (λ b h. h ∙ keeps_is_member t (value_view c.args.value.now) (sound_keeps_base t c.requires.sound) c.requires.fits) c.all_keep.ensures
