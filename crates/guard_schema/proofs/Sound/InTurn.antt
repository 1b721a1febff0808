-- A type with its parts finished, as the code knows names.
use Rattle.std.proofs.Common.{◌≡◌, List, map, Option, Ok, IsTrue, sym, ap, subst, ◌∙◌}
use Rattle.guard_model.proofs.TypeViews.{type_view_is}
use Rattle.guard_model.specs.AbstractType.{AbstractType, AbstractKind, type_of}
use Rattle.guard_model.specs.TypeView.{type_view, kind_view, constraint_view, constraints_of}
use Rattle.guard_model.specs.declared.ty.Kind.TheViews.{out-Ty}
use Rattle.guard_model.specs.declared.ty.Ty.{Ty}
use Rattle.guard_syntax.specs.Trees.{WrittenBase}
use Rattle.guard_values.specs.declared.scope.Scope.{Scope}
use Rattle.guard_values.proofs.Fitting.KnownValuesFit.{visible_fit}
use Rattle.guard_constraints.specs.Views.{visible_in}
use Rattle.guard_constraints.proofs.Denoted.WrittenValues.{visible_sound}
use Rattle.guard_schema.specs.inside.InTurn.{KindInTurn}
use Rattle.guard_schema.specs.Pairs.{AreBuilt}
use Rattle.guard_schema.specs.inside.Ready.{IsReadyBase, IsPart}
use Rattle.guard_schema.proofs.Filled.ByTrees.{kind_filled}
use Rattle.guard_schema.proofs.Sound.Finished.{kind_part}

pub part_sound : (scope : Scope) → AreBuilt scope.known.now → (base : WrittenBase) (bare : Ty)
    → IsReadyBase (visible_in scope) base (type_view bare) → (k : AbstractKind)
    → KindInTurn (visible_in scope) base (kind_view (out-Ty bare).kind) (Ok k) → (t : AbstractType)
    → t ≡ type_of (out-Ty bare).tags.items k (constraints_of (map constraint_view (out-Ty bare).cons.items))
    → IsPart (visible_in scope) base t
part_sound scope known base bare ready k h t is =
    let cons = constraints_of (map constraint_view (out-Ty bare).cons.items) in
    let kind = kind_view (out-Ty bare).kind in
    let here = subst (λ (u : AbstractType). IsReadyBase (visible_in scope) base u) (type_view_is bare) ready in
    subst (λ (u : AbstractType). IsPart (visible_in scope) base u) (sym is)
    (kind_part (visible_in scope) (visible_fit scope.names.now scope.known.now scope.id known.1)
    (visible_sound scope.names.now scope.known.now scope.id known.0) base (out-Ty bare).tags.items kind k cons here.0
    here.1 (kind_filled (visible_in scope) base kind cons here.0.1 (Ok k) h))
