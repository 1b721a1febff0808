use Rattle.std.proofs.Common.{◌≡◌, ◌↔◌, ◌+◌, ◌≤◌, ℕ, Bool, List, Option, None, true, IfSome, length, map, slice_get, Some, Ok, refl, sym, ap, subst, ◌∙◌}
use Rattle.std.proofs.lemmas.List.{length-map}
use Rattle.std.proofs.lemmas.Result.{err_from_is_err_and}
use Rattle.guard_model.specs.AbstractType.{AbstractType}
use Rattle.guard_model.specs.Answer.{Refuses}
use Rattle.guard_model.specs.TypeView.{shared_type_view, type_view}
use Rattle.guard_syntax.specs.ModuleViews.{module_view, assignment_view}
use Rattle.guard_syntax.specs.Trees.{WrittenModule}
use Rattle.guard_syntax.specs.TypeViews as written
use Rattle.guard_syntax.specs.declared.tree.TypeTree.{TypeTree}
use Rattle.guard_names.specs.Declarations.{Definition, definitions}
use Rattle.guard_names.specs.Faults.{fault_of_names}
use Rattle.guard_names.specs.Meanings.{Uses}
use Rattle.guard_names.specs.NamesView.{modules_of, order_of}
use Rattle.guard_names.proofs.InOrder.Placing.{listed_there, order_below}
use Rattle.guard_names.proofs.Faults.Refusals.{none_is}
use Rattle.guard_tagcheck.specs.Limits.{is_within_limits}
use Rattle.guard_tagging.specs.Automatic.{Automatic}
use Rattle.guard_tagging.specs.declared.fault.TagFault.{TagFault}
use Rattle.guard_tagging.specs.declared.made.Made.{Made}
use Rattle.guard_tagging.specs.Faults.{nodes, most_nodes}
use Rattle.guard_tagging.specs.KnownNames.{IsKnown}
use Rattle.guard_tagging.specs.Named.{named}
use Rattle.guard_tagging.specs.inside.NodeViews.{made_view}
use Rattle.guard_tagging.specs.inside.ReadTypes.{read_type}
use Rattle.guard_tagging.specs.ScopeView.{scope_view, done_view}
use Rattle.guard_tagging.specs.Skeletons.{AreSurroundings, IsTypeOf, IsFaultOf}
use Rattle.guard_tagging.specs.Spelled.{IsSpelled}
use Rattle.guard_tagging.specs.Surroundings.{surroundings, is_automatic_definition}
use Rattle.guard_tagging.specs.Tagged.{KeepLimits}
use Rattle.guard_tagging.specs.Types.{Meaning, Surroundings}
use Rattle.guard_tagging.proofs.Builds.{no_such}
use Rattle.guard_tagging.proofs.Definitions.AtPlaces.{known_kept}
use Rattle.guard_tagging.proofs.Definitions.AutomaticLists.{definition_right}
use Rattle.guard_tagging.proofs.Definitions.KnownNames.{known_in_type}
use Rattle.guard_tagging.proofs.Definitions.OneDefinition.{all_spelled, all_kept, tagged_so, counted_so, few_so, within_so, refused_so}
use Rattle.guard_tagging.proofs.definition.skeleton_after.Goals as goal
use Rattle.guard_tagging.proofs.definition.skeleton_after.Goals.{After-deref}

pub unreachable-requires : goal.unreachable-requires
unreachable-requires c =
    let ms = modules_of c.args.names.now in
    let order = order_of c.args.names.now in
    no_such (definitions ms) c.args.id
    (order_below (length (definitions ms)) (Uses ms) order c.args.names.now.ordered c.args.id
    (listed_there order (length c.args.done.now.types.now) c.args.id c.requires.next)) c.in_default.ensures

-- ---- the definition, and where its type is written

module _ (c : After-deref) where
  abbrev ms : List WrittenModule
  ms = modules_of c.args.names.now

  abbrev order : List ℕ
  order = order_of c.args.names.now

  abbrev types : List AbstractType
  types = map shared_type_view c.args.done.now.types.now

  abbrev before : ℕ
  before = c.args.done.now.nodes

  abbrev d : Definition
  d = record { home = module_view c.in-Some.home.now; assignment = assignment_view c.in-Some.assignment.now }

  abbrev around : Surroundings
  around = scope_view c.scope_in-scope.result

  is : Some d ≡ slice_get (definitions ms) c.args.id
  is = c.in-Some.ensures

  abbrev known : List Meaning
  known = done_view c.args.done.now

  same : around ≡ surroundings ms order known d.home
  same = c.scope_in-scope.ensures

  are : AreSurroundings ms order types d around
  are = (known, c.requires.known, same)

  spelled : IsSpelled d.assignment.ty
  spelled = all_spelled ms c.requires.spelled c.args.id d (sym is)

  kept : KeepLimits around
  kept =
      subst KeepLimits (sym c.scope_in-scope.ensures)
      (known_kept types c.args.done.now.automatic.now
      (all_kept c.args.done.now.types.now c.requires.limits) ms order d.home)

  tree : c.deref.result.now ≡ c.in-Some.assignment.now.ty.value
  tree = cc (c.deref.ensures)

  next : slice_get order (length types) ≡ Some c.args.id
  next =
      let many : length types ≡ length c.args.done.now.types.now = length-map c.args.done.now.types.now shared_type_view in
      ap (slice_get order) many ∙ c.requires.next

  no_fault : fault_of_names ms ≡ None
  no_fault = none_is (fault_of_names ms) c.args.names.now.faultless

  -- the names in its type
  all_known : IsKnown around d.assignment.ty
  all_known =
      subst (λ (a : Surroundings). IsKnown a d.assignment.ty) (sym same)
      (known_in_type ms no_fault order c.args.names.now.ordered types known c.requires.known c.args.id next d (sym is))

  names_known : IsKnown around (written.type_view c.deref.result.now)
  names_known = subst (λ (t : TypeTree). IsKnown around (written.type_view t)) (sym tree) all_known

  -- whether it is a list that is tagged automatically
  automatic : (flag : Bool) → flag ≡ is_automatic_definition ms order known (slice_get (definitions ms) c.args.id)
      → (flag ≡ true) ↔ Automatic ms c.args.id
  automatic flag found =
      subst (λ (f : Bool). (f ≡ true) ↔ Automatic ms c.args.id) (sym found)
      (definition_right ms no_fault order c.args.names.now.ordered types known c.requires.known c.args.id next
      (slice_get (definitions ms) c.args.id) refl)

  -- the fault that the walk met
  refusal : (f : Option TagFault) → Refuses f (read_type around true None before (written.type_view c.deref.result.now))
      → IfSome f (IsFaultOf ms order types c.args.id)
  refusal f met =
      refused_so ms order types c.args.id d is around are before c.requires.counted spelled kept all_known f
      (subst (λ (t : TypeTree). Refuses f (read_type around true None before (written.type_view t))) tree met)

  -- the type that it made
  answer : (m : Made) → read_type around true None before (written.type_view c.deref.result.now) ≡ Ok (made_view m)
      → IsTypeOf ms order types c.args.id (type_view m.ty) × (is_within_limits (type_view m.ty) ≡ true)
      × (m.nodes ≡ before + nodes (type_view m.ty)) × (m.nodes ≤ most_nodes)
  answer m read =
      let made : read_type around true None before d.assignment.ty ≡ Ok (made_view m) =
      ap (λ (t : TypeTree). read_type around true None before (written.type_view t)) (sym tree) ∙ read in (
        tagged_so ms order types c.args.id d is around are before c.requires.counted spelled kept all_known (made_view m) made,
        within_so ms order types c.args.id d is around are before c.requires.counted spelled kept all_known (made_view m) made,
        counted_so ms order types c.args.id d is around are before c.requires.counted spelled kept all_known (made_view m) made,
        few_so ms order types c.args.id d is around are before c.requires.counted spelled kept all_known (made_view m) made,
      )

pub type_of-requires : goal.type_of-requires
type_of-requires c = record { known = names_known (goal.at.type_of-requires c).After-deref }

pub returns-in_err-made-clause-refused : goal.returns-in_err-made-clause-refused
returns-in_err-made-clause-refused c =
    let p = err_from_is_err_and c.from_residual.result c.from_residual.ensures.1 in
    rw (p.1, p.2) (refusal (goal.at.returns-in_err-made-clause-refused c).After-deref
    (named c.in_err-made.field-0.0) c.in_err-made.ensures)

read_so : (c : goal.After-into_inner-ty)
    → read_type (scope_view c.scope_in-scope.result) true None c.args.done.now.nodes
    (written.type_view c.deref.result.now) ≡ Ok (made_view c.into_inner-ty.result)
read_so c = c.in_ok-made.ensures ∙ ap (λ (m : Made). Ok (made_view m)) (sym c.into_inner-ty.ensures)

pub returns-clause-tagged : goal.returns-clause-tagged
returns-clause-tagged c = (answer (goal.at.returns-clause-tagged c).After-deref c.into_inner-ty.result (read_so c)).0

pub returns-clause-limits : goal.returns-clause-limits
returns-clause-limits c = (answer (goal.at.returns-clause-limits c).After-deref c.into_inner-ty.result (read_so c)).1

pub returns-clause-counted : goal.returns-clause-counted
returns-clause-counted c = (answer (goal.at.returns-clause-counted c).After-deref c.into_inner-ty.result (read_so c)).2

pub returns-clause-few : goal.returns-clause-few
returns-clause-few c = (answer (goal.at.returns-clause-few c).After-deref c.into_inner-ty.result (read_so c)).3

pub returns-clause-known : goal.returns-clause-known
returns-clause-known c =
    automatic (goal.at.returns-clause-known c).After-deref c.is_automatic_definition-is_automatic.result c.is_automatic_definition-is_automatic.ensures
