use Rattle.guard_model.specs.TypeView.{type_view}
use Rattle.guard_values.specs.Views.{visible_from}
use Rattle.guard_values.proofs.SetOf.AnyOrder.{any_order}
use Rattle.guard_values.proofs.Fitting.KnownValuesFit.{visible_fit}
use Rattle.guard_values.proofs.laws.law_any_order.Goals as goal

pub returns : goal.returns
returns c = λ es others tags cons site v perm h.
    any_order (visible_from c.args.names.now c.args.known.now c.args.id) (visible_fit c.args.names.now c.args.known.now c.args.id c.requires.fitting) (type_view c.args.element.now) c.requires.sound es others tags cons site v perm h
