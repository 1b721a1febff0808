-- A kind that is ready is the one that is written, with its parts.
use Rattle.std.proofs.Common.{◌≡◌, ◌≤◌, List, length, Option, Some, None, Err, inr, refl, sym, ap, subst, ◌∙◌, map}
use Rattle.std.proofs.Common.{IsTrue, arith}
use Rattle.std.proofs.lemmas.List.{length-map}
use Rattle.std.specs.Global.{Box, Vec}
use Rattle.guard_model.proofs.TypeViews.{type_view_is, kind_view_choice}
use Rattle.guard_model.specs.AbstractType.{AbstractType, AbstractKind, type_of}
use Rattle.guard_model.specs.Kinds.{kind_of}
use Rattle.guard_model.specs.TypeView.{OneComponent, type_view, kind_view, component_view, components_of}
use Rattle.guard_model.specs.declared.ty.Comp.{Comp}
use Rattle.guard_model.specs.declared.ty.Kind.{Kind, Choice}
use Rattle.guard_model.specs.declared.ty.Kind.TheViews.{out-Ty}
use Rattle.guard_model.specs.declared.ty.Ty.{Ty}
use Rattle.guard_syntax.specs.Trees as trees
use Rattle.guard_syntax.specs.Trees.{WrittenType, WrittenBase, structure, choice, of_type, WrittenComponents}
use Rattle.guard_syntax.specs.Trees.{WrittenOfConstraint, WrittenAlternatives, WrittenAlternative, WrittenComponent}
use Rattle.guard_syntax.specs.Trees.{WrittenComponentForm, named_type}
use Rattle.guard_syntax.specs.TypeViews as written
use Rattle.guard_syntax.specs.declared.tree.AlternativeTree.{AlternativeTree}
use Rattle.guard_syntax.specs.declared.tree.BaseTree.{BaseTree}
use Rattle.guard_syntax.specs.TypeViews.{base_step, component_form_step, alternative_step, component_step, type_step}
use Rattle.guard_syntax.specs.declared.tree.BaseTree.TheFolds.{fold-roll-BaseTree}
use Rattle.guard_syntax.specs.declared.tree.BaseTree.TheOpen.{BaseTree-F}
use Rattle.guard_syntax.specs.declared.tree.BaseTree.TheVariants as base_form
use Rattle.guard_syntax.specs.declared.tree.BaseTree.TheVariants.{rolls-Reference}
use Rattle.guard_syntax.specs.declared.tree.Collection.{Collection}
use Rattle.guard_syntax.specs.declared.tree.CompTree.{CompTree}
use Rattle.guard_syntax.specs.declared.tree.NameTree.{NameTree}
use Rattle.guard_syntax.specs.declared.tree.OfConsTree.{OfConsTree}
use Rattle.guard_syntax.specs.declared.tree.TypeTree.{TypeTree}
use Rattle.guard_constraints.specs.Visible.{Visible}
use Rattle.guard_schema.specs.Faults.{AbstractFault, Outcome}
use Rattle.guard_schema.specs.Finishing.{count_of_meant}
use Rattle.guard_schema.specs.Outcomes.{RefusesBy}
use Rattle.guard_schema.specs.inside.InTurn.{Filling, FillsAll, ChoiceInTurn}
use Rattle.guard_schema.specs.inside.Ready.{listed, is_shaped, IsReadyBase, IsReadyKind, IsReadyStructure}
use Rattle.guard_schema.specs.inside.Ready.{IsReadyChoice, IsReadyOf, ArePutInNext}
use Rattle.guard_schema.proofs.Filled.Next.{enough_left}
use Rattle.guard_schema.proofs.Filled.Steps.{structure_is, choice_is, of_is}
use Rattle.guard_schema.proofs.Sound.Shaped.{structure_shaped, choice_shaped, element_shaped}

-- ---- of a type

pub kind_ready : (names : Visible) (base : WrittenBase) (bare : Ty) → IsReadyBase names base (type_view bare)
    → IsReadyKind names base (kind_view (out-Ty bare).kind)
kind_ready names base bare h = (type_view bare, sym (ap kind_of (type_view_is bare)), h)

-- ---- by what is written

structure_ready : (names : Visible) (k : Collection) (cs : WrittenComponents) (kind : AbstractKind)
    → IsReadyKind names (structure k cs) kind → IsReadyStructure names cs kind
structure_ready names k cs kind (type_of ts kd cons, e, ((tagged, (none, (bare, is, few, are))), shaped)) = (
  k,
  bare,
  e ∙ is,
  (
    are,
    structure_shaped k ts bare cons
        (subst (λ (x : AbstractKind). IsTrue (is_shaped (type_of ts x cons))) is shaped),
  ),
)

pub list_ready : (names : Visible) (base : BaseTree) (k : Collection) (comps : Vec CompTree)
    → base ≡ base_form.Structure k comps → (inside : List CompTree) → inside ≡ comps.items → (kind : AbstractKind)
    → IsReadyKind names (written.base_view base) kind
    → IsReadyStructure names (trees.components_of (map written.component_view inside)) kind
list_ready names base k comps is inside same kind h =
    subst (λ (cs : List CompTree). IsReadyStructure names (trees.components_of (map written.component_view cs)) kind)
    (sym same)
    (structure_ready names k (trees.components_of (map written.component_view comps.items)) kind
    (subst (λ (b : WrittenBase). IsReadyKind names b kind) (ap written.base_view is ∙ structure_is k comps) h))

alternatives_ready : (names : Visible) (others : WrittenAlternatives) (kind : AbstractKind)
    → IsReadyKind names (choice others) kind → IsReadyChoice names others kind
alternatives_ready names others kind (type_of ts kd cons, e, ((tagged, (none, (bare, is, few, are))), shaped)) = (
  bare,
  e ∙ is,
  (are, choice_shaped ts bare cons (subst (λ (x : AbstractKind). IsTrue (is_shaped (type_of ts x cons))) is shaped)),
)

pub choice_ready : (names : Visible) (base : BaseTree) (others : Vec AlternativeTree)
    → base ≡ base_form.Choice others → (inside : List AlternativeTree) → inside ≡ others.items → (kind : AbstractKind)
    → IsReadyKind names (written.base_view base) kind
    → IsReadyChoice names (trees.alternatives_of (map written.alternative_view inside)) kind
choice_ready names base others is inside same kind h =
    subst (λ (all : List AlternativeTree). IsReadyChoice names
    (trees.alternatives_of (map written.alternative_view all)) kind) (sym same)
    (alternatives_ready names (trees.alternatives_of (map written.alternative_view others.items)) kind
    (subst (λ (b : WrittenBase). IsReadyKind names b kind) (ap written.base_view is ∙ choice_is others) h))

of_ready : (names : Visible) (k : Collection) (c : Option WrittenOfConstraint) (w : WrittenType) (kind : AbstractKind)
    → IsReadyKind names (of_type k c w) kind → IsReadyOf names w kind
of_ready names k c w kind (type_of ts kd cons, e, ((tagged, (none, (bare, is, made))), shaped)) = (
  k,
  bare,
  e ∙ is,
  (
    made,
    element_shaped k ts bare cons
        (subst (λ (x : AbstractKind). IsTrue (is_shaped (type_of ts x cons))) is shaped),
  ),
)

pub element_ready : (names : Visible) (base : BaseTree) (k : Collection) (c : Option OfConsTree)
    (element : Box TypeTree)
    → base ≡ base_form.Of k c element → (inside : TypeTree) → inside ≡ element.value → (kind : AbstractKind)
    → IsReadyKind names (written.base_view base) kind → IsReadyOf names (written.type_view inside) kind
element_ready names base k c element is inside same kind h =
    subst (λ (t : TypeTree). IsReadyOf names (written.type_view t) kind) (sym same)
    (of_ready names k (written.of_constraint_view c) (written.type_view element.value) kind
    (subst (λ (b : WrittenBase). IsReadyKind names b kind) (ap written.base_view is ∙ of_is k c element) h))

-- ---- by the kind of the code

pub choice_refused : (Fill : Filling → Outcome Filling → Type 0) (kind : Kind) (comps : Vec Comp) → kind ≡ Choice comps
    → (fault : Option AbstractFault)
    → RefusesBy fault (FillsAll Fill (listed (components_of (map component_view comps.items))))
    → RefusesBy fault (ChoiceInTurn Fill (kind_view kind))
choice_refused Fill kind comps is None h = tt
choice_refused Fill kind comps is (Some f) h =
    subst (λ (k : AbstractKind). ChoiceInTurn Fill k (Err f)) (sym (ap kind_view is ∙ kind_view_choice comps))
    (inr (f, h, refl))

-- ---- what COMPONENTS OF a name takes over

reference_is : (name : NameTree) → written.base_view (base_form.Reference name)
    ≡ named_type name.site name.name.now
reference_is name =
    ap written.base_view (sym (rolls-Reference name))
    ∙ fold-roll-BaseTree WrittenBase WrittenComponentForm WrittenAlternative WrittenComponent WrittenType base_step
    component_form_step alternative_step component_step type_step (BaseTree-F.Reference name)

pub meant_there : (names : Visible) (base : BaseTree) (name : NameTree) → base ≡ base_form.Reference name
    → (left : List OneComponent) → ArePutInNext names (written.base_view base) left
    → (t : AbstractType) × (names.types name.name.now ≡ Some t)
meant_there names base name is left h = of_name
    (subst (λ (b : WrittenBase). ArePutInNext names b left) (ap written.base_view is ∙ reference_is name) h)
  where
    of_name : ArePutInNext names (named_type name.site name.name.now) left
        → (t : AbstractType) × (names.types name.name.now ≡ Some t)
    of_name (taken, ((t, there, same), shaped), begins) = (t, there)

pub enough_there : (names : Visible) (base : BaseTree) (name : NameTree) → base ≡ base_form.Reference name
    → (left : List Comp) → ArePutInNext names (written.base_view base) (map component_view left)
    → count_of_meant (names.types name.name.now) ≤ length left
enough_there names base name is left h =
    let some = enough_left names name.site name.name.now (map component_view left)
    (subst (λ (b : WrittenBase). ArePutInNext names b (map component_view left))
    (ap written.base_view is ∙ reference_is name) h) in
    omega (arith, some, length-map left component_view)
