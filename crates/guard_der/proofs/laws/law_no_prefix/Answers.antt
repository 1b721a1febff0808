use Rattle.guard_model.specs.TypeView.{type_view}
use Rattle.guard_model.specs.ValueView.{value_view}
use Rattle.guard_der.proofs.Types.Messages.{no_prefix}
use Rattle.guard_der.proofs.laws.law_no_prefix.Goals as goal

pub returns : goal.returns
returns c = λ first second x y e f same. no_prefix (type_view c.args.ty.now) (value_view c.args.one.now) (value_view c.args.other.now) first second x y c.requires.sound c.requires.one_fits c.requires.other_fits e f same
