use Rattle.std.proofs.Common.{sym, ◌∙◌}
use Rattle.guard_model.proofs.Results.{same_Ok}
use Rattle.guard_model.specs.TypeView.{type_view}
use Rattle.guard_syntax.specs.Views as trees
use Rattle.guard_values.specs.Views.{visible_from}
use Rattle.guard_values.proofs.Denoted.DenotedIsRead.{says_read}
use Rattle.guard_values.proofs.laws.law_one_value.Goals as goal

pub returns : goal.returns
returns c = λ v w h k.
    let m = visible_from c.args.names.now c.args.known.now c.args.id in
    same_Ok v w (sym (says_read m (trees.value_view c.args.tree.now) (type_view c.args.ty.now) v h.0) ∙ says_read m (trees.value_view c.args.tree.now) (type_view c.args.ty.now) w k.0)
