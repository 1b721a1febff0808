use Rattle.guard_model.specs.TypeView.{type_view}
use Rattle.guard_syntax.specs.SetViews as views
use Rattle.guard_constraints.specs.Views.{visible_at}
use Rattle.guard_constraints.proofs.Denoted.CodeAnswers.{gives_denoted, gives_proper, gives_faultless, gives_holding, gives_first, gives_none}
use Rattle.guard_values.proofs.Fitting.KnownValuesFit.{visible_fit}
use Rattle.guard_constraints.proofs.Denoted.WrittenValues.{visible_sound}
use Rattle.std.proofs.lemmas.Result.{IfOk-weaker}
use Rattle.guard_model.specs.TypeView.{constraint_view}
use Rattle.guard_constraints.proofs.CodeSteps.NotedBounds.{one_more_bounded}
use Rattle.guard_constraints.proofs.written.constraint.Goals as goal

pub returns-clause-denoted : goal.returns-clause-denoted
returns-clause-denoted c =
    gives_denoted (visible_at c.args.names.now c.args.known.now c.args.id) (type_view c.args.ty.now) (views.constraint_view c.args.tree.now)
    (visible_fit c.args.names.now c.args.known.now c.args.id c.requires.fitting) c.requires.sound c.on_type.result c.on_type.ensures.given

pub returns-clause-proper : goal.returns-clause-proper
returns-clause-proper c =
    gives_proper (visible_at c.args.names.now c.args.known.now c.args.id) (type_view c.args.ty.now) (views.constraint_view c.args.tree.now)
    (visible_fit c.args.names.now c.args.known.now c.args.id c.requires.fitting) c.requires.sound (visible_sound c.args.names.now c.args.known.now c.args.id c.requires.known) c.on_type.result c.on_type.ensures.given

pub returns-clause-faultless : goal.returns-clause-faultless
returns-clause-faultless c =
    gives_faultless (visible_at c.args.names.now c.args.known.now c.args.id) (type_view c.args.ty.now) (views.constraint_view c.args.tree.now)
    (visible_fit c.args.names.now c.args.known.now c.args.id c.requires.fitting) c.requires.sound c.on_type.result c.on_type.ensures.given

pub returns-clause-holds : goal.returns-clause-holds
returns-clause-holds c =
    gives_holding (visible_at c.args.names.now c.args.known.now c.args.id) (type_view c.args.ty.now) (views.constraint_view c.args.tree.now)
    (visible_fit c.args.names.now c.args.known.now c.args.id c.requires.fitting) c.requires.sound c.on_type.result c.on_type.ensures.given

pub returns-clause-first : goal.returns-clause-first
returns-clause-first c =
    gives_first (visible_at c.args.names.now c.args.known.now c.args.id) (type_view c.args.ty.now) (views.constraint_view c.args.tree.now)
    (visible_fit c.args.names.now c.args.known.now c.args.id c.requires.fitting) c.requires.sound c.on_type.result c.on_type.ensures.given

pub returns-clause-none : goal.returns-clause-none
returns-clause-none c =
    gives_none (visible_at c.args.names.now c.args.known.now c.args.id) (type_view c.args.ty.now) (views.constraint_view c.args.tree.now) c.on_type.result c.on_type.ensures.given

pub returns-clause-bounded : goal.returns-clause-bounded
returns-clause-bounded c =
    IfOk-weaker c.on_type.result _ _ (λ one within.
    one_more_bounded c.args.noted.now.bound c.on_type.new.noted.bound (type_view c.args.ty.now) (constraint_view one) c.on_type.ensures.grows c.requires.bounded within)
    c.on_type.ensures.bounds
