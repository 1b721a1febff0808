-- A definition by its steps.
use Rattle.std.proofs.Common.{◌≡◌, ◌+◌, ◌≤◌, ℕ, suc, List, [], ◌∷◌, length, map, Option, Some, None, Result, Ok, Err}
use Rattle.std.proofs.Common.{option_map, slice_get, inl, inr, refl, sym, ap, subst, ◌∙◌, arith}
use Rattle.std.specs.Prelude.{All, IfSome, IsTrue, min}
use Rattle.std.proofs.lemmas.List.Elements.{All-head, All-tail, All-cons, All-nil}
use Rattle.std.proofs.lemmas.Option.{same_Some}
use Rattle.guard_model.specs.AbstractType.{AbstractType}
use Rattle.guard_model.specs.AbstractValue.{AbstractValue}
use Rattle.guard_model.specs.TypeView.{shared_type_view}
use Rattle.guard_model.specs.declared.site.Site.{Site}
use Rattle.guard_model.proofs.Results.{same_Ok, same_Err}
use Rattle.guard_tagcheck.specs.Limits.{is_within_limits}
use Rattle.guard_eval.proofs.Soundness.{sound_within_limits}
use Rattle.guard_model.specs.declared.ty.Ty.{Ty}
use Rattle.guard_model.specs.declared.value.Value.{Value}
use Rattle.std.specs.Global.{Global}
use Rattle.std.specs.declared.sync.Arc.{Arc}
use Rattle.guard_names.specs.Declarations.{Definition, definitions}
use Rattle.guard_names.specs.NamesView.{modules_of, order_of}
use Rattle.guard_tagging.specs.declared.fault.TagFault.{TagFault}
use Rattle.guard_tagging.specs.declared.fault.TagFault.TheVariants as tag_fault
use Rattle.guard_tagging.specs.Named as tagging
use Rattle.guard_tagging.specs.Skeletons.{AreSurroundings, IsTypeOf, IsFaultOf}
use Rattle.guard_tagging.specs.Surroundings.{nodes_of_all}
use Rattle.guard_tagging.specs.Types.{Surroundings}
use Rattle.guard_constraints.specs.Visible.{Visible}
use Rattle.guard_constraints.specs.Views.{visible_at}
use Rattle.guard_schema.specs.declared.fault.SchemaFault.{SchemaFault}
use Rattle.guard_schema.specs.declared.progress.Progress.{Progress}
use Rattle.guard_schema.specs.declared.progress.Definition as code
use Rattle.guard_schema.specs.Outcomes.{RefusesBy, Answers}
use Rattle.guard_schema.specs.Faults.{AbstractFault, Tag, Outcome, IsNamed, named}
use Rattle.guard_schema.specs.Known.{Built, Known, types_of, visible}
use Rattle.guard_schema.specs.Building.{HasTagsUnder, HasTags, TellsApart, Assigns, KeepsLimit, HasValue, BuildsNumber}
use Rattle.guard_schema.specs.inside.InTurn.{FinishesInTurn, TagsNumber, TagsApart, CompletesInTurn}
use Rattle.guard_schema.specs.Counting.{all_held}
use Rattle.guard_syntax.specs.Trees.{WrittenAssignment}
use Rattle.guard_der.specs.Sound.{is_sound}
use Rattle.guard_schema.specs.Finishing.{Finishes}
use Rattle.guard_schema.specs.Pairs.{paired}
use Rattle.guard_schema.specs.Views.{built_in, known_view, definition_view}
use Rattle.guard_schema.proofs.Turns.Outcomes.{led}
use Rattle.guard_schema.specs.inside.Ready.{IsReady}
use Rattle.guard_schema.proofs.Filled.ByTrees.{type_filled}
use Rattle.guard_schema.proofs.Sound.Ready.{ready, paired_sound}
use Rattle.guard_schema.proofs.Built.Visible.{visible_same}

pub types_same : (ts : List (Arc Ty Global)) (vs : List (Option (Arc Value Global))) → length vs ≡ length ts
    → types_of (paired ts vs) ≡ map shared_type_view ts
types_same [] vs e = refl
types_same (t ∷ ts) [] e = absurd (omega (arith, e))
types_same (t ∷ ts) (v ∷ vs) e = ap (λ us. shared_type_view t ∷ us) (types_same ts vs (less e))
  where
    less : {p q : ℕ} → suc p ≡ suc q → p ≡ q
    less h' = omega (arith, h')

tag_named : (f g : TagFault) → tagging.named f ≡ Some g → IsNamed tagging.named g
tag_named tag_fault.OutOfMemory g e = absurd cc
tag_named (tag_fault.UniversalTag site) g e =
    subst (IsNamed tagging.named) (same_Some (tag_fault.UniversalTag site) g e) refl
tag_named (tag_fault.ImplicitChoice site) g e =
    subst (IsNamed tagging.named) (same_Some (tag_fault.ImplicitChoice site) g e) refl
tag_named (tag_fault.TagTooLarge site) g e = subst (IsNamed tagging.named)
    (same_Some (tag_fault.TagTooLarge site) g e) refl
tag_named (tag_fault.ComponentsOfKind site) g e =
    subst (IsNamed tagging.named) (same_Some (tag_fault.ComponentsOfKind site) g e) refl
tag_named (tag_fault.ComponentsOfAutomatic site) g e =
    subst (IsNamed tagging.named) (same_Some (tag_fault.ComponentsOfAutomatic site) g e) refl
tag_named (tag_fault.ComponentsOfTagged site) g e =
    subst (IsNamed tagging.named) (same_Some (tag_fault.ComponentsOfTagged site) g e) refl
tag_named (tag_fault.DuplicateName site) g e =
    subst (IsNamed tagging.named) (same_Some (tag_fault.DuplicateName site) g e) refl
tag_named (tag_fault.DuplicateNumber site) g e =
    subst (IsNamed tagging.named) (same_Some (tag_fault.DuplicateNumber site) g e) refl
tag_named (tag_fault.TooManyComponents site) g e =
    subst (IsNamed tagging.named) (same_Some (tag_fault.TooManyComponents site) g e) refl
tag_named (tag_fault.TooDeep site) g e = subst (IsNamed tagging.named) (same_Some (tag_fault.TooDeep site) g e) refl
tag_named (tag_fault.SchemaTooLarge site) g e =
    subst (IsNamed tagging.named) (same_Some (tag_fault.SchemaTooLarge site) g e) refl
tag_named (tag_fault.NumberTooLarge site) g e =
    subst (IsNamed tagging.named) (same_Some (tag_fault.NumberTooLarge site) g e) refl

-- what comes of its type, with its value
module _ (k : Known) (names : Visible) (a : WrittenAssignment) (t : AbstractType) (v : Option AbstractValue)
    (read : Assigns names t a.value (Ok v)) where
  pub limit_refuses : (before : ℕ) → before ≡ all_held k.built → (fault : Option AbstractFault)
      → RefusesBy fault (KeepsLimit before a.site (record { ty = t; value = v }))
      → RefusesBy fault (HasValue k names a t)
  limit_refuses before e None h = tt
  limit_refuses before e (Some f) h =
      inl (v, read, inr (f, subst (λ n. KeepsLimit n a.site (record { ty = t; value = v }) (Err f)) e h, refl))

  pub limit_kept : (before : ℕ) → before ≡ all_held k.built
      → KeepsLimit before a.site (record { ty = t; value = v }) (Ok tt)
      → HasValue k names a t (Ok (record { ty = t; value = v }))
  limit_kept before e h =
      inl (v, read, inl (tt, subst (λ n. KeepsLimit n a.site (record { ty = t; value = v }) (Ok tt)) e h, refl))

-- ---- its tags and parts

module _ (p : Progress) (id : ℕ) where
  same : types_of (built_in p) ≡ map shared_type_view p.known.types.items
  same = types_same p.known.types.items p.known.values.items p.known.even

  -- its tags under the types before it are those where what is built of them is known
  under_built : (d : Definition) (answer : Outcome AbstractType) (surroundings : Surroundings)
      → AreSurroundings (modules_of p.names.now) (order_of p.names.now) (map shared_type_view p.known.types.items) d
      surroundings
      → HasTagsUnder surroundings (nodes_of_all (map shared_type_view p.known.types.items)) d.assignment.ty answer
      → HasTags (known_view p) d answer
  under_built d answer surroundings are holds =
      subst (λ (ts : List AbstractType). (s : Surroundings)
      × AreSurroundings (modules_of p.names.now) (order_of p.names.now) ts d s
      × HasTagsUnder s (nodes_of_all ts) d.assignment.ty answer) (sym same) (surroundings, are, holds)

  pub number_tagged : (t : AbstractType) → IsTypeOf (modules_of p.names.now) (order_of p.names.now)
      (map shared_type_view p.known.types.items) id t → TagsNumber (known_view p) id (Ok t)
  number_tagged t h =
      (h.0, h.1, under_built h.0 (Ok t) h.2 h.3 h.4)

  faulty : (site : Site) (f : TagFault) (o : Option TagFault) → tagging.named f ≡ o
      → IfSome o (IsFaultOf (modules_of p.names.now) (order_of p.names.now) (map shared_type_view p.known.types.items) id)
      → RefusesBy (option_map Tag o) (TagsApart (known_view p) id site)
  faulty site f None e h = tt
  faulty site f (Some g) e h = inr (
    Tag g,
    (h.0, h.1, under_built h.0 (Err (Tag g)) h.2 h.3 (tag_named f g e, h.4)),
    refl,
  )

  pub tags_refused : (site : Site) (f : TagFault) (y : SchemaFault) → named y ≡ option_map Tag (tagging.named f)
      → IfSome (tagging.named f) (IsFaultOf (modules_of p.names.now) (order_of p.names.now)
      (map shared_type_view p.known.types.items) id) → RefusesBy (named y) (TagsApart (known_view p) id site)
  tags_refused site f y e h = subst (λ (o : Option AbstractFault). RefusesBy o (TagsApart (known_view p) id site))
      (sym e) (faulty site f (tagging.named f) refl h)

  pub clash_refused : (site : Site) (bare : AbstractType) → TagsNumber (known_view p) id (Ok bare)
      → (fault : Option AbstractFault) → RefusesBy fault (TellsApart site bare)
      → RefusesBy fault (TagsApart (known_view p) id site)
  clash_refused site bare tagged None h = tt
  clash_refused site bare tagged (Some f) h = inl (bare, tagged, inr (f, h, refl))

-- ---- its constraints and its value

module _ (k : Known) (names : Visible) (a : WrittenAssignment) (bare : AbstractType) where
  pub finishing_refused : (fault : Option AbstractFault) → RefusesBy fault (FinishesInTurn names a.ty bare)
      → RefusesBy fault (CompletesInTurn k names a bare)
  finishing_refused None h = tt
  finishing_refused (Some f) h = inr (f, h, refl)

  pub value_refused : (t : AbstractType) → FinishesInTurn names a.ty bare (Ok t) → (fault : Option AbstractFault)
      → RefusesBy fault (HasValue k names a t) → RefusesBy fault (CompletesInTurn k names a bare)
  value_refused t finished None h = tt
  value_refused t finished (Some f) h = inl (t, finished, h)

-- ---- the whole of it

module _ (p : Progress) (id : ℕ) (d : Definition)
    (is : Some d ≡ slice_get (definitions (modules_of p.names.now)) id) where
  -- it is the definition of this number
  tagged_so : (answer : Outcome AbstractType) → TagsNumber (known_view p) id answer
      → HasTags (known_view p) d answer
  tagged_so answer h =
      subst (λ (x : Definition). HasTags (known_view p) x answer) (same_Some h.0 d (sym h.1 ∙ sym is)) h.2

  here : visible_at p.names.now p.known id ≡ visible (known_view p) d.home.name
  here = visible_same p id d is

  by_tags : (f : AbstractFault) → TagsApart (known_view p) id d.assignment.site (Err f)
      → BuildsNumber (known_view p) id (Err f)
  by_tags f (inl (bare, tagged, inl (u, apart, e))) = absurd cc
  by_tags f (inl (bare, tagged, inr (g, clash, e))) =
      (d, sym is, inl (bare, tagged_so (Ok bare) tagged, inr (g, clash, ap Err (same_Err f g e))))
  by_tags f (inr (g, tagged, e)) = (d, sym is, inr (g, tagged_so (Err g) tagged, ap Err (same_Err f g e)))

  pub built_refused : (fault : Option AbstractFault) → RefusesBy fault (TagsApart (known_view p) id d.assignment.site)
      → RefusesBy fault (BuildsNumber (known_view p) id)
  built_refused None h = tt
  built_refused (Some f) h = by_tags f h

  module _ (bare : AbstractType) (tagged : HasTags (known_view p) d (Ok bare))
      (apart : TellsApart d.assignment.site bare (Ok tt)) where
    ready_so : IsReady (visible (known_view p) d.home.name) d.assignment.ty bare
    ready_so = ready (known_view p) d tagged.0 tagged.1
        (paired_sound p.known.types.items p.known.values.items p.sound p.fitting) bare tagged.2 apart

    finished_so : (answer : Outcome AbstractType)
        → FinishesInTurn (visible (known_view p) d.home.name) d.assignment.ty bare answer
        → Finishes (visible (known_view p) d.home.name) d.assignment.ty bare answer
    finished_so = type_filled (visible (known_view p) d.home.name) d.assignment.ty bare ready_so.0

    completed_so : (answer : Outcome Built) → CompletesInTurn (known_view p)
        (visible (known_view p) d.home.name) d.assignment bare answer → BuildsNumber (known_view p) id answer
    completed_so answer (inl (t, finished, value)) =
        (d, sym is, inl (bare, tagged, inl (tt, apart, inl (t, finished_so (Ok t) finished, value))))
    completed_so answer (inr (f, finished, e)) =
        (d, sym is, inl (bare, tagged, inl (tt, apart, inr (f, finished_so (Err f) finished, e))))

  parts_there : (bare : AbstractType) → TagsApart (known_view p) id d.assignment.site (Ok bare)
      → HasTags (known_view p) d (Ok bare) × TellsApart d.assignment.site bare (Ok tt)
  parts_there bare (inl (b, tagged, inl (u, apart, e))) =
      let at : b ≡ bare = sym (same_Ok bare b e) in (
        subst (λ (t : AbstractType). HasTags (known_view p) d (Ok t)) at (tagged_so (Ok b) tagged),
        subst (λ (t : AbstractType). TellsApart d.assignment.site t (Ok tt)) at apart,
      )
  parts_there bare (inl (b, tagged, inr (f, clash, e))) = absurd cc
  parts_there bare (inr (f, tagged, e)) = absurd cc

  -- so it is ready to be finished
  pub tagged_ready : (bare : AbstractType) → TagsApart (known_view p) id d.assignment.site (Ok bare)
      → IsReady (visible_at p.names.now p.known id) d.assignment.ty bare
  tagged_ready bare h = let parts = parts_there bare h in subst (λ (m : Visible). IsReady m d.assignment.ty bare)
      (sym here) (ready_so bare parts.0 parts.1)

  pub built_whole : (bare : AbstractType) → TagsApart (known_view p) id d.assignment.site (Ok bare)
      → (result : Result code.Definition SchemaFault)
      → Answers definition_view named result (CompletesInTurn (known_view p) (visible_at p.names.now p.known id)
      d.assignment bare) → Answers definition_view named result (BuildsNumber (known_view p) id)
  built_whole bare h result completes =
      let parts = parts_there bare h in
      led definition_view named result (CompletesInTurn (known_view p)
      (visible_at p.names.now p.known id) d.assignment bare)
      (BuildsNumber (known_view p) id)
      (λ answer c. completed_so bare parts.0 parts.1 answer
      (subst (λ (m : Visible). CompletesInTurn (known_view p) m d.assignment bare answer) here c)) completes

-- ---- types before it keep the limits

pub all_limits : (ts : List (Arc Ty Global)) → All (λ t. IsTrue (is_sound (shared_type_view t))) ts
    → All (λ t. IsTrue (is_within_limits (shared_type_view t))) ts
all_limits [] h = All-nil (λ (t : Arc Ty Global). IsTrue (is_within_limits (shared_type_view t)))
all_limits (t ∷ ts) h =
    All-cons (λ (u : Arc Ty Global). IsTrue (is_within_limits (shared_type_view u))) t ts
    (sound_within_limits (shared_type_view t) (All-head (λ (u : Arc Ty Global). IsTrue (is_sound (shared_type_view u))) t ts h))
    (all_limits ts (All-tail (λ (u : Arc Ty Global). IsTrue (is_sound (shared_type_view u))) t ts h))
