-- Types that are finished step by step.
use Rattle.std.proofs.Common.{◌≡◌, ℕ, List, [], map, length, Option, Some, None, Result, Ok, Err, inl, inr, refl, sym}
use Rattle.std.proofs.Common.{ap, subst, ◌∙◌, ◌⊎◌}
use Rattle.std.specs.Global.{Box, Vec}
use Rattle.std.specs.Arc.{arc_str_bytes}
use Rattle.guard_model.proofs.Components.{component_count_view}
use Rattle.guard_model.proofs.Results.{same_Ok}
use Rattle.guard_model.proofs.TypeViews.{type_view_is, component_view_is}
use Rattle.guard_model.specs.AbstractType.{AbstractType, AbstractKind, type_of}
use Rattle.guard_model.specs.Components.{components_in}
use Rattle.guard_model.specs.Counts.{component_count}
use Rattle.guard_model.specs.TypeView.{OneComponent, type_view, kind_view, component_view, components_of}
use Rattle.guard_model.specs.TypeView.{constraints_of}
use Rattle.guard_model.specs.TypeView as model
use Rattle.guard_model.specs.declared.site.Site.{Site}
use Rattle.guard_model.specs.declared.ty.Comp.{Comp}
use Rattle.guard_model.specs.declared.ty.Kind.{Kind}
use Rattle.guard_model.specs.declared.ty.Kind.TheViews.{out-Ty, out-Comp}
use Rattle.guard_model.specs.declared.ty.Ty.{Ty}
use Rattle.guard_syntax.specs.SetViews as sets
use Rattle.guard_syntax.specs.Trees.{WrittenConstraint, WrittenPresence, WrittenTag, WrittenType, type_node}
use Rattle.guard_syntax.specs.Trees.{WrittenBase, of_type, WrittenComponentForm, components_of_type, WrittenComponent}
use Rattle.guard_syntax.specs.Trees.{WrittenAlternative}
use Rattle.guard_model.specs.declared.tag.Tag.{Tag}
use Rattle.guard_syntax.specs.Trees as trees
use Rattle.guard_syntax.specs.TypeViews as written
use Rattle.guard_syntax.specs.TypeViews.{base_step, component_form_step, alternative_step, component_step, type_step}
use Rattle.guard_syntax.specs.declared.tree.AlternativeTree.{AlternativeTree}
use Rattle.guard_syntax.specs.declared.tree.BaseTree.{BaseTree}
use Rattle.guard_syntax.specs.declared.tree.BaseTree.TheFolds.{fold_out-TypeTree, fold_out-CompTree, fold-roll-BaseTree}
use Rattle.guard_syntax.specs.declared.tree.BaseTree.TheFolds.{fold-roll-CompForm}
use Rattle.guard_syntax.specs.declared.tree.BaseTree.TheOpen.{BaseTree-F, CompForm-F}
use Rattle.guard_syntax.specs.declared.tree.BaseTree.TheVariants as base_form
use Rattle.guard_syntax.specs.declared.tree.BaseTree.TheVariants.{rolls-Of, rolls-Structure, rolls-Choice}
use Rattle.guard_syntax.specs.declared.tree.BaseTree.TheViews.{out-TypeTree, out-CompTree}
use Rattle.guard_syntax.specs.declared.tree.Collection.{Collection}
use Rattle.guard_syntax.specs.declared.tree.CompForm.TheVariants as component_form
use Rattle.guard_syntax.specs.declared.tree.CompForm.TheVariants.{rolls-ComponentsOf}
use Rattle.guard_syntax.specs.declared.tree.CompTree.{CompTree}
use Rattle.guard_syntax.specs.declared.tree.OfConsTree.{OfConsTree}
use Rattle.guard_syntax.specs.declared.tree.TypeTree.{TypeTree}
use Rattle.guard_tagging.specs.Types.{parts_of}
use Rattle.guard_constraints.specs.Visible.{Visible}
use Rattle.guard_schema.specs.declared.constraints.Bounded.{Bounded}
use Rattle.guard_schema.specs.declared.fault.SchemaFault.{SchemaFault}
use Rattle.guard_schema.specs.Outcomes.{RefusesBy, Answers}
use Rattle.guard_schema.specs.Faults.{AbstractFault, Outcome, named}
use Rattle.guard_schema.specs.Finishing.{Adds, ConstrainsBefore}
use Rattle.guard_schema.specs.LongValues.{long_in_all, first_long}
use Rattle.guard_schema.specs.inside.InTurn.{Filling, ConstrainsWritten, FinishesInTurn, KindInTurn}
use Rattle.guard_schema.specs.inside.InTurn.{ElementInTurn, PartsInTurn, OneInTurn, WithPresence, FillsAll, FillsOne}
use Rattle.guard_schema.specs.inside.InTurn.{FromBaseInTurn, EntryInTurn, ListInTurn, ChoiceInTurn, FillsInTurn}
use Rattle.guard_schema.specs.inside.InTurn.{OthersInTurn}
use Rattle.guard_schema.specs.inside.Ready.{tags_on, listed, IsReady, IsReadyBase, IsPart, IsWrittenPart}
use Rattle.guard_schema.specs.inside.Room.{HasRoom}
use Rattle.guard_schema.specs.inside.Ready.{IsAsMeant, IsKnownShort}
use Rattle.guard_schema.proofs.Room.Short.{short_again}
use Rattle.guard_schema.proofs.Filled.Lists.{listed_of}
use Rattle.guard_schema.specs.declared.finishing.Filling as code
use Rattle.guard_schema.specs.Views.{filling_view}
use Rattle.guard_schema.proofs.Turns.Outcomes.{next_answers}

-- ---- one level of a written type

pub type_is : (tree : TypeTree) → written.type_view tree ≡ type_node (out-TypeTree tree).site
    (map written.tag_view (out-TypeTree tree).tags.items) (written.base_view (out-TypeTree tree).base)
    (map sets.constraint_view (out-TypeTree tree).cons.items)
type_is tree = fold_out-TypeTree WrittenBase WrittenComponentForm WrittenAlternative WrittenComponent WrittenType
    base_step component_form_step alternative_step component_step type_step tree

-- ---- the constraints of a type that is written so

module _ (names : Visible) (tree : TypeTree) (t : AbstractType) where
  pub before_refused : (fault : Option AbstractFault)
      → RefusesBy fault (ConstrainsBefore names (written.base_view (out-TypeTree tree).base) t)
      → RefusesBy fault (ConstrainsWritten names (written.type_view tree) t)
  before_refused None h = tt
  before_refused (Some f) h = subst (λ (w : WrittenType). ConstrainsWritten names w t (Err f)) (sym (type_is tree))
      (inr (f, h, refl))

  pub then_after : (u : AbstractType) → ConstrainsBefore names (written.base_view (out-TypeTree tree).base) t (Ok u)
      → (result : Result Ty SchemaFault) → Answers type_view named result
      (Adds names (map sets.constraint_view (out-TypeTree tree).cons.items) u)
      → Answers type_view named result (ConstrainsWritten names (written.type_view tree) t)
  then_after u h result k =
      subst (λ (w : WrittenType). Answers type_view named result (ConstrainsWritten names w t)) (sym (type_is tree))
      (next_answers (ConstrainsBefore names (written.base_view (out-TypeTree tree).base) t)
      (λ (v : AbstractType). Adds names (map sets.constraint_view (out-TypeTree tree).cons.items) v) type_view named u h
      result k)

  pub part_there : IsWrittenPart names (written.type_view tree) t
      → IsPart names (written.base_view (out-TypeTree tree).base) t
  part_there h = subst (λ (w : WrittenType). IsWrittenPart names w t) (type_is tree) h

  pub part_written : IsPart names (written.base_view (out-TypeTree tree).base) t
      → IsWrittenPart names (written.type_view tree) t
  part_written h = subst (λ (w : WrittenType). IsWrittenPart names w t) (sym (type_is tree)) h

  pub ready_there : IsReady names (written.type_view tree) t
      → IsReadyBase names (written.base_view (out-TypeTree tree).base) t
  ready_there h = subst (λ (w : WrittenType). IsReady names w t) (type_is tree) h

-- the values in its own constraints
pub constraints_there : (ty : Ty) (found expected : Option Site) → found ≡ long_in_all (type_view ty)
    (constraints_of (map model.constraint_view (out-Ty ty).cons.items)) → found ≡ expected
    → first_long (type_view ty) ≡ expected
constraints_there ty found expected h e =
    let all = constraints_of (map model.constraint_view (out-Ty ty).cons.items) in
    ap first_long (type_view_is ty) ∙ ap (λ (t : AbstractType). long_in_all t all) (sym (type_view_is ty))
    ∙ sym h ∙ e

-- under the tags that the name means, and where tags leave room, its values are short
pub short_as_meant : (names : Visible) (name : List ℕ) (ty : Ty) → IsAsMeant names name (type_view ty)
    → (tags : List Tag) → tags ≡ (out-Ty ty).tags.items → IsKnownShort names name tags → first_long (type_view ty) ≡ None
short_as_meant names name ty (u, there, kind, cons, short) tags is known =
    short_again (type_view ty) u kind cons short
    (subst (λ (ts : List Tag). (ts ≡ tags_on u) ⊎ HasRoom ts u) (is ∙ sym (ap tags_on (type_view_is ty))) (known u there))

-- ---- its parts, and then its constraints

module _ (names : Visible) (site : Site) (tags : List WrittenTag) (base : WrittenBase)
    (cs : List WrittenConstraint) where
  node_refused : (bare : AbstractType) (f : AbstractFault) → PartsInTurn names base bare (Err f)
      → FinishesInTurn names (type_node site tags base cs) bare (Err f)
  node_refused (type_of ts kind cons) f (inl (k, h, e)) = absurd cc
  node_refused (type_of ts kind cons) f (inr (g, h, e)) = inr (g, h, e)

  node_finished : (bare u : AbstractType) → PartsInTurn names base bare (Ok u) → (answer : Outcome AbstractType)
      → ConstrainsWritten names (type_node site tags base cs) u answer
      → FinishesInTurn names (type_node site tags base cs) bare answer
  node_finished (type_of ts kind cons) u (inl (k, h, e)) answer limits =
      inl (
        k,
        h,
        subst (λ (w : AbstractType). ConstrainsWritten names (type_node site tags base cs) w answer)
            (same_Ok u (type_of ts k cons) e) limits,
      )
  node_finished (type_of ts kind cons) u (inr (g, h, e)) answer limits = absurd cc

module _ (names : Visible) (tree : TypeTree) (bare : AbstractType) where
  pub parts_refused : (fault : Option AbstractFault)
      → RefusesBy fault (PartsInTurn names (written.base_view (out-TypeTree tree).base) bare)
      → RefusesBy fault (FinishesInTurn names (written.type_view tree) bare)
  parts_refused None h = tt
  parts_refused (Some f) h =
      subst (λ (w : WrittenType). FinishesInTurn names w bare (Err f)) (sym (type_is tree))
      (node_refused names (out-TypeTree tree).site (map written.tag_view (out-TypeTree tree).tags.items)
      (written.base_view (out-TypeTree tree).base)
      (map sets.constraint_view (out-TypeTree tree).cons.items) bare f h)

  finished_by : (u : AbstractType) → PartsInTurn names (written.base_view (out-TypeTree tree).base) bare (Ok u)
      → (answer : Outcome AbstractType) → ConstrainsWritten names (written.type_view tree) u answer
      → FinishesInTurn names (written.type_view tree) bare answer
  finished_by u h answer k =
      subst (λ (w : WrittenType). FinishesInTurn names w bare answer) (sym (type_is tree))
      (node_finished names (out-TypeTree tree).site (map written.tag_view (out-TypeTree tree).tags.items)
      (written.base_view (out-TypeTree tree).base)
      (map sets.constraint_view (out-TypeTree tree).cons.items) bare u h answer
      (subst (λ (w : WrittenType). ConstrainsWritten names w u answer) (type_is tree) k))

  refused_by : (u : AbstractType) → PartsInTurn names (written.base_view (out-TypeTree tree).base) bare (Ok u)
      → (fault : Option AbstractFault) → RefusesBy fault (ConstrainsWritten names (written.type_view tree) u)
      → RefusesBy fault (FinishesInTurn names (written.type_view tree) bare)
  refused_by u h None k = tt
  refused_by u h (Some f) k = finished_by u h (Err f) k

  pub parts_finished : (u : AbstractType) → PartsInTurn names (written.base_view (out-TypeTree tree).base) bare (Ok u)
      → (result : Result Bounded SchemaFault) → Answers (λ b. type_view b.ty) named result
      (ConstrainsWritten names (written.type_view tree) u)
      → Answers (λ b. type_view b.ty) named result (FinishesInTurn names (written.type_view tree) bare)
  parts_finished u h (Ok x) k = finished_by u h (Ok (type_view x.ty)) k
  parts_finished u h (Err e) k = refused_by u h (named e) k

-- ---- its kind

module _ (names : Visible) (base : WrittenBase) (bare : Ty) where
  pub kind_refused : (fault : Option AbstractFault)
      → RefusesBy fault (KindInTurn names base (kind_view (out-Ty bare).kind))
      → RefusesBy fault (PartsInTurn names base (type_view bare))
  kind_refused None h = tt
  kind_refused (Some f) h = subst (λ (t : AbstractType). PartsInTurn names base t (Err f)) (sym (type_view_is bare))
      (inr (f, h, refl))

  pub kind_finished : (k : AbstractKind) → KindInTurn names base (kind_view (out-Ty bare).kind) (Ok k)
      → (u : AbstractType) → u ≡ type_of (out-Ty bare).tags.items k
      (constraints_of (map model.constraint_view (out-Ty bare).cons.items))
      → PartsInTurn names base (type_view bare) (Ok u)
  kind_finished k h u e = subst (λ (t : AbstractType). PartsInTurn names base t (Ok u)) (sym (type_view_is bare))
      (inl (k, h, ap Ok e))

-- ---- its components or alternatives

pub structure_is : (k : Collection) (comps : Vec CompTree) → written.base_view (base_form.Structure k comps)
    ≡ trees.structure k (trees.components_of (map written.component_view comps.items))
structure_is k comps =
    ap written.base_view (sym (rolls-Structure k comps))
    ∙ fold-roll-BaseTree WrittenBase WrittenComponentForm WrittenAlternative WrittenComponent WrittenType base_step
    component_form_step alternative_step component_step type_step (BaseTree-F.Structure k comps)

pub choice_is : (others : Vec AlternativeTree) → written.base_view (base_form.Choice others)
    ≡ trees.choice (trees.alternatives_of (map written.alternative_view others.items))
choice_is others =
    ap written.base_view (sym (rolls-Choice others))
    ∙ fold-roll-BaseTree WrittenBase WrittenComponentForm WrittenAlternative WrittenComponent WrittenType base_step
    component_form_step alternative_step component_step type_step (BaseTree-F.Choice others)

pub list_finished : (names : Visible) (base : BaseTree) (k : Collection) (comps : Vec CompTree)
    → base ≡ base_form.Structure k comps → (inside : List CompTree) → inside ≡ comps.items
    → (kind : AbstractKind) (result : Result Kind SchemaFault)
    → Answers kind_view named result
    (ListInTurn (FillsInTurn names (trees.components_of (map written.component_view inside))) kind)
    → Answers kind_view named result (KindInTurn names (written.base_view base) kind)
list_finished names base k comps is inside same kind result h =
    subst (λ (b : WrittenBase). Answers kind_view named result (KindInTurn names b kind))
    (sym (ap written.base_view is ∙ structure_is k comps))
    (subst (λ (cs : List CompTree). Answers kind_view named result
    (ListInTurn (FillsInTurn names (trees.components_of (map written.component_view cs))) kind)) same h)

pub choice_finished : (names : Visible) (base : BaseTree) (others : Vec AlternativeTree)
    → base ≡ base_form.Choice others → (inside : List AlternativeTree) → inside ≡ others.items
    → (kind : AbstractKind) (result : Result Kind SchemaFault)
    → Answers kind_view named result
    (ChoiceInTurn (OthersInTurn names (trees.alternatives_of (map written.alternative_view inside))) kind)
    → Answers kind_view named result (KindInTurn names (written.base_view base) kind)
choice_finished names base others is inside same kind result h =
    subst (λ (b : WrittenBase). Answers kind_view named result (KindInTurn names b kind))
    (sym (ap written.base_view is ∙ choice_is others))
    (subst (λ (all : List AlternativeTree). Answers kind_view named result
    (ChoiceInTurn (OthersInTurn names (trees.alternatives_of (map written.alternative_view all))) kind)) same h)

-- ---- the type of its elements

pub of_is : (k : Collection) (c : Option OfConsTree) (element : Box TypeTree)
    → written.base_view (base_form.Of k c element) ≡ of_type k (written.of_constraint_view c)
    (written.type_view element.value)
of_is k c element =
    ap written.base_view (sym (rolls-Of k c element))
    ∙ fold-roll-BaseTree WrittenBase WrittenComponentForm WrittenAlternative WrittenComponent WrittenType base_step
    component_form_step alternative_step component_step type_step (BaseTree-F.Of k c element)

pub element_finished : (names : Visible) (base : BaseTree) (k : Collection) (c : Option OfConsTree)
    (element : Box TypeTree) → base ≡ base_form.Of k c element → (inside : TypeTree) → inside ≡ element.value
    → (kind : AbstractKind) (result : Result Kind SchemaFault)
    → Answers kind_view named result (ElementInTurn (FinishesInTurn names (written.type_view inside)) kind)
    → Answers kind_view named result (KindInTurn names (written.base_view base) kind)
element_finished names base k c element is inside same kind result h =
    subst (λ (b : WrittenBase). Answers kind_view named result (KindInTurn names b kind))
    (sym (ap written.base_view is ∙ of_is k c element))
    (subst (λ (t : TypeTree). Answers kind_view named result
    (ElementInTurn (FinishesInTurn names (written.type_view t)) kind)) same h)

-- ---- what COMPONENTS OF takes in

from_is : (element : Box TypeTree) → written.component_form_view
    (component_form.ComponentsOf element) ≡ components_of_type (written.type_view element.value)
from_is element =
    ap written.component_form_view (sym (rolls-ComponentsOf element))
    ∙ fold-roll-CompForm WrittenBase WrittenComponentForm WrittenAlternative WrittenComponent WrittenType base_step
    component_form_step alternative_step component_step type_step (CompForm-F.ComponentsOf element)

component_is : (tree : CompTree) → written.component_view tree ≡ record
    { site = (out-CompTree tree).site; form = written.component_form_view (out-CompTree tree).form }
component_is tree = fold_out-CompTree WrittenBase WrittenComponentForm WrittenAlternative WrittenComponent WrittenType
    base_step component_form_step alternative_step component_step type_step tree

pub taken_in : (names : Visible) (tree : CompTree) (element : Box TypeTree)
    → (out-CompTree tree).form ≡ component_form.ComponentsOf element → (inside : TypeTree) → inside ≡ element.value
    → (f : Filling) (result : Result code.Filling SchemaFault)
    → Answers filling_view named result (FromBaseInTurn names (written.base_view (out-TypeTree inside).base) f)
    → Answers filling_view named result (EntryInTurn names (written.component_view tree).form f)
taken_in names tree element is inside same f result h =
    let form : (written.component_view tree).form ≡ components_of_type (written.type_view inside) =
    ap (λ (c : WrittenComponent). c.form) (component_is tree) ∙ ap written.component_form_view is ∙ from_is element
    ∙ ap (λ (t : TypeTree). components_of_type (written.type_view t)) (sym same) in
    subst (λ (w : WrittenComponentForm). Answers filling_view named result (EntryInTurn names w f))
    (sym (form ∙ ap components_of_type (type_is inside))) h

-- ---- its list of components

module _ (Fill : Filling → Outcome Filling → Type 0) (bare : List OneComponent) (start : Filling)
    (is : start ≡ record { done = []; left = bare }) where
  pub filling_refused : (fault : Option AbstractFault) → RefusesBy fault (Fill start)
      → RefusesBy fault (FillsAll Fill (listed (components_of bare)))
  filling_refused None h = tt
  filling_refused (Some f) h =
      subst (λ (xs : List OneComponent). FillsAll Fill xs (Err f)) (sym (listed_of bare))
      (inr (f, subst (λ (s : Filling). Fill s (Err f)) is h, refl))

  pub all_filled : (f : Filling) → Fill start (Ok f) → FillsAll Fill (listed (components_of bare)) (Ok f.done)
  all_filled f h = subst (λ (xs : List OneComponent). FillsAll Fill xs (Ok f.done)) (sym (listed_of bare))
      (inl (f, subst (λ (s : Filling). Fill s (Ok f)) is h, refl))

-- ---- a component

pub one_refused : (names : Visible) (Finish : AbstractType → Outcome AbstractType → Type 0)
    (presence : WrittenPresence) (c : OneComponent) (f : Filling)
    → (fault : Option AbstractFault) → RefusesBy fault (OneInTurn names Finish presence c)
    → RefusesBy fault (FillsOne names Finish presence c f)
one_refused names Finish presence c f None h = tt
one_refused names Finish presence c f (Some g) h = inr (g, h, refl)

module _ (names : Visible) (w : WrittenType) (presence : WrittenPresence) (bare : Comp) where
  pub component_ready : IsReady names w (component_view bare).ty → IsReady names w (type_view (out-Comp bare).ty)
  component_ready h = subst (λ (c : OneComponent). IsReady names w c.ty) (component_view_is bare) h

  pub component_refused : (fault : Option AbstractFault)
      → RefusesBy fault (FinishesInTurn names w (type_view (out-Comp bare).ty))
      → RefusesBy fault (OneInTurn names (FinishesInTurn names w) presence (component_view bare))
  component_refused None h = tt
  component_refused (Some f) h =
      subst (λ (c : OneComponent). OneInTurn names (FinishesInTurn names w) presence c (Err f))
      (sym (component_view_is bare)) (inr (f, h, refl))

  pub component_finished : (u : AbstractType) → FinishesInTurn names w (type_view (out-Comp bare).ty) (Ok u)
      → (result : Result Comp SchemaFault) → Answers component_view named result
      (WithPresence names presence (arc_str_bytes (out-Comp bare).name) u)
      → Answers component_view named result (OneInTurn names (FinishesInTurn names w) presence (component_view bare))
  component_finished u h result k =
      subst (λ (c : OneComponent). Answers component_view named result
      (OneInTurn names (FinishesInTurn names w) presence c)) (sym (component_view_is bare))
      (next_answers (FinishesInTurn names w (type_view (out-Comp bare).ty))
      (λ (v : AbstractType). WithPresence names presence (arc_str_bytes (out-Comp bare).name) v) component_view named u
      h
      result k)

-- ---- how many components a type has

pub parts_counted : (ty : Ty) (comps : List Comp)
    → components_of (map component_view comps) ≡ components_in (kind_view (out-Ty ty).kind) → (n : ℕ) → n ≡ length comps
    → n ≡ component_count (parts_of (type_view ty))
parts_counted ty comps is n e =
    e ∙ sym (component_count_view comps) ∙ ap component_count is
    ∙ sym (ap (λ (t : AbstractType). component_count (parts_of t)) (type_view_is ty))
