use Rattle.std.proofs.Common.{ℕ, ◌+◌, IsTrue, Option, Some, None, option_map, inl, sym, ap, ◌∙◌}
use Rattle.std.specs.Prelude.{IfSome}
use Rattle.std.specs.Global.{Global}
use Rattle.std.specs.declared.sync.Arc.{Arc}
use Rattle.std.proofs.lemmas.Result.{err_from_is_err_and}
use Rattle.guard_der.specs.Fits.{fits}
use Rattle.guard_model.specs.AbstractType.{AbstractType}
use Rattle.guard_model.specs.TypeView.{type_view, shared_type_view}
use Rattle.guard_model.specs.declared.value.Value.{Value}
use Rattle.guard_syntax.specs.ModuleViews.{assignment_view}
use Rattle.guard_syntax.specs.TypeViews as written
use Rattle.guard_values.specs.Views.{shared_view}
use Rattle.guard_constraints.specs.Views.{visible_at}
use Rattle.guard_schema.specs.Faults.{named}
use Rattle.guard_schema.specs.Views.{known_view}
use Rattle.guard_schema.proofs.Filled.ByTrees.{type_filled}
use Rattle.guard_schema.proofs.Built.Visible.{known_built}
use Rattle.guard_schema.proofs.Built.OneDefinition.{finishing_refused, value_refused}
use Rattle.guard_schema.proofs.Sound.Shapes.{finished_nodes}
use Rattle.guard_schema.proofs.definitions.completed.Goals as goal

pub finished-requires : goal.finished-requires
finished-requires c = record { known = known_built c.args.progress.now; ready = rw c.deref.ensures c.requires.ready }

pub valued-requires : goal.valued-requires
valued-requires c = record { sound = rw c.in_ok-shared.ensures.ok c.in_ok-done.ensures.sound; known = known_built c.args.progress.now }

pub returns-in_err-done-clause-built : goal.returns-in_err-done-clause-built
returns-in_err-done-clause-built c =
    let p = err_from_is_err_and c.from_residual.result c.from_residual.ensures.1 in
    rw (p.1, p.2) (finishing_refused (known_view c.args.progress.now)
    (visible_at c.args.progress.now.names.now c.args.progress.now.known c.args.id)
    (assignment_view c.args.assignment.now) (type_view c.args.tagged.ty) (named c.in_err-done.field-0.0)
    (rw c.deref.ensures at c.in_err-done.ensures.finished))

pub returns-in_err-found-clause-built : goal.returns-in_err-found-clause-built
returns-in_err-found-clause-built c =
    let p = err_from_is_err_and c.from_residual-in_err-found.result c.from_residual-in_err-found.ensures.1 in
    rw (p.1, p.2) (value_refused (known_view c.args.progress.now)
    (visible_at c.args.progress.now.names.now c.args.progress.now.known c.args.id)
    (assignment_view c.args.assignment.now) (type_view c.args.tagged.ty)
    (type_view c.in_ok-done.done.ty) (rw c.deref.ensures at c.in_ok-done.ensures.finished)
    (named c.in_err-found.field-0.0) (rw c.in_ok-shared.ensures.ok at c.in_err-found.ensures.built))

pub returns-clause-built : goal.returns-clause-built
returns-clause-built c = inl (
  shared_type_view c.in_ok-shared.shared,
  rw c.in_ok-shared.ensures.ok (rw c.deref.ensures at c.in_ok-done.ensures.finished),
  c.in_ok-found.ensures.built,
)

pub returns-clause-sound : goal.returns-clause-sound
returns-clause-sound c = rw c.in_ok-shared.ensures.ok c.in_ok-done.ensures.sound

value_fits : (t : AbstractType) (v : Option (Arc Value Global)) → IfSome v (λ w. IsTrue (fits t (shared_view w)))
    → IfSome (option_map shared_view v) (λ w. IsTrue (fits t w))
value_fits t None h = tt
value_fits t (Some v) h = h

pub returns-clause-fits : goal.returns-clause-fits
returns-clause-fits c = rw c.in_ok-shared.ensures.ok
    (value_fits (type_view c.in_ok-done.done.ty) c.in_ok-found.found.0
    (rw c.in_ok-shared.ensures.ok at c.in_ok-found.ensures.fits))

pub returns-clause-nodes : goal.returns-clause-nodes
returns-clause-nodes c =
    let names = visible_at c.args.progress.now.names.now c.args.progress.now.known c.args.id in
    let tree = written.type_view c.args.assignment.now.ty.value in
    let bare = type_view c.args.tagged.ty in
    let same = finished_nodes names tree bare (type_view c.in_ok-done.done.ty)
    (type_filled names tree bare c.requires.ready.0 _ (rw c.deref.ensures at c.in_ok-done.ensures.finished)) in
    rw c.in_ok-shared.ensures.ok (c.requires.nodes ∙ ap (λ (n : ℕ). c.args.progress.now.nodes + n) (sym same), c.requires.few)

pub returns-clause-bound : goal.returns-clause-bound
returns-clause-bound c = rw c.in_ok-shared.ensures.ok c.in_ok-done.done.bounded
