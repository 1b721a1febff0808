use Rattle.guard_model.specs.TypeView.{type_view}
use Rattle.guard_model.specs.ValueView.{value_view}
use Rattle.guard_der.proofs.Types.Messages.{one_encoding}
use Rattle.guard_der.proofs.laws.law_one_encoding.Goals as goal

pub returns : goal.returns
returns c = λ e f. one_encoding (type_view c.args.ty.now) (value_view c.args.one.now) (value_view c.args.other.now) c.args.octets.now c.requires.sound c.requires.one_fits c.requires.other_fits e f
