use Rattle.std.proofs.Common.{ap, ◌∙◌}
use Rattle.std.specs.Prelude.{is_some}
use Rattle.guard_model.specs.TypeView.{type_view}
use Rattle.guard_model.specs.ValueView.{value_view}
use Rattle.guard_der.specs.Der.{der}
use Rattle.guard_der.proofs.Functions.Soundness.{told_where_short}
use Rattle.guard_der.proofs.sound_types.is_short.Goals as goal

pub returns : goal.returns
returns c =
    c.is_some.ensures ∙ ap is_some c.encoded_length.ensures
    ∙ told_where_short (der (type_view c.args.ty.now) (value_view c.args.value.now))
