use Rattle.guard_model.specs.Answer.{Gives}
use Rattle.guard_model.specs.TypeView.{type_view}
use Rattle.guard_names.specs.Meanings.{number_meant}
use Rattle.guard_names.specs.NamesView.{modules_of}
use Rattle.guard_syntax.specs.Views as trees
use Rattle.guard_values.specs.inside.Reading.{read_whole}
use Rattle.guard_values.specs.Views.{named, known_value_view, visible_in}
use Rattle.guard_values.proofs.Fitting.KnownValuesFit.{known_fits}
use Rattle.guard_values.proofs.OneAnswer.CodeAnswers.{sound_proper, gives_denoted, gives_fitting, gives_fault, gives_first, gives_none}
use Rattle.guard_values.proofs.OneAnswer.EarlyEnds.{built_there}
use Rattle.guard_values.proofs.values.shared_value_in.Goals as goal

pub value_within_limit-requires-clause-proper : goal.value_within_limit-requires-clause-proper
value_within_limit-requires-clause-proper c = sound_proper (type_view c.args.ty.now) c.requires.sound

pub value_within_limit-requires-clause-fitting : goal.value_within_limit-requires-clause-fitting
value_within_limit-requires-clause-fitting c = λ name. known_fits c.args.known.now c.requires.fitting _

given : (c : goal.After-value_within_limit) → Gives known_value_view named c.value_within_limit.result
    (read_whole (visible_in c.args.names.now c.args.known.now c.args.home.now) (type_view c.args.ty.now) (trees.value_view c.args.tree.now))
given c = built_there c.args.names.now c.args.known.now c.module_named-home.result (number_meant (modules_of c.args.names.now) c.args.home.now)
    c.module_named-home.ensures.meant (type_view c.args.ty.now) (sound_proper (type_view c.args.ty.now) c.requires.sound)
    (trees.value_view c.args.tree.now) c.value_within_limit.result c.value_within_limit.ensures.given

pub returns-clause-denoted : goal.returns-clause-denoted
returns-clause-denoted c = gives_denoted _ (type_view c.args.ty.now) (trees.value_view c.args.tree.now) c.value_within_limit.result (given c)

pub returns-clause-fits : goal.returns-clause-fits
returns-clause-fits c = gives_fitting _ (type_view c.args.ty.now) (trees.value_view c.args.tree.now)
    (λ name. known_fits c.args.known.now c.requires.fitting _) (sound_proper (type_view c.args.ty.now) c.requires.sound)
    c.value_within_limit.result (given c)

pub returns-clause-holds : goal.returns-clause-holds
returns-clause-holds c = gives_fault _ (type_view c.args.ty.now) (trees.value_view c.args.tree.now) c.value_within_limit.result (given c)

pub returns-clause-none : goal.returns-clause-none
returns-clause-none c = gives_none _ (type_view c.args.ty.now) (trees.value_view c.args.tree.now) c.value_within_limit.result (given c)

pub returns-clause-first : goal.returns-clause-first
returns-clause-first c = gives_first _ (type_view c.args.ty.now) (trees.value_view c.args.tree.now) c.value_within_limit.result (given c)
