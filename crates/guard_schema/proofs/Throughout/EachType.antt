-- Each type of a schema is that of a definition, finished where all is built.
use Rattle.std.proofs.Common.{◌≡◌, ℕ, ◌+◌, List, ◌∷◌, ◌++◌, length, Option, Some, None, Ok, Err, slice_get, Contains}
use Rattle.std.proofs.Common.{inl, inr, refl, sym, ap, subst, ◌∙◌, arith}
use Rattle.std.specs.Prelude.{Result, IfOk}
use Rattle.std.specs.Option.{option_and_then}
use Rattle.std.proofs.lemmas.List.{map-append, length-map}
use Rattle.std.proofs.lemmas.Option.{same_Some, slice_get-get_or, slice_get_within}
use Rattle.guard_model.proofs.Results.{same_Ok}
use Rattle.guard_model.specs.AbstractType.{AbstractType}
use Rattle.guard_model.specs.AbstractValue.{AbstractValue}
use Rattle.guard_syntax.specs.Trees.{WrittenModule, WrittenValue}
use Rattle.guard_names.specs.Declarations.{Definition, definitions}
use Rattle.guard_names.specs.Faults.{AreFaultless}
use Rattle.guard_names.specs.Meanings.{Uses}
use Rattle.guard_names.specs.Order.{IsOrder}
use Rattle.guard_names.specs.Places.{place_in, place_meant}
use Rattle.guard_names.proofs.InOrder.Places.{placed_there}
use Rattle.guard_names.proofs.Faults.Refusals.{none_duplicate}
use Rattle.guard_tagging.specs.Surroundings.{tag_default_of, known_from}
use Rattle.guard_tagging.specs.Skeletons.{surroundings_of}
use Rattle.guard_tagging.specs.Types.{Surroundings, denoted}
use Rattle.guard_tagging.proofs.Definitions.InOrder.{known_in_order, around_is}
use Rattle.guard_tagging.proofs.Definitions.KnownNames.{known_in_type}
use Rattle.guard_constraints.specs.Visible.{Visible}
use Rattle.guard_schema.specs.Known.{Built, Known, none_known, types_of, built_at, meant, governed, type_alone, visible}
use Rattle.guard_schema.specs.Known.{IsWrittenUnder}
use Rattle.guard_schema.specs.Finishing.{Finishes}
use Rattle.guard_schema.specs.Building.{Assigns, HasValue, Builds, BuildsAll}
use Rattle.guard_schema.specs.Schemas.{AbstractSchema, number_assigned, type_unless, assigned_type, schema_of}
use Rattle.guard_schema.specs.Accepts.{Denotes}
use Rattle.guard_schema.specs.Faults.{named}
use Rattle.guard_schema.specs.Outcomes.{Answers}
use Rattle.guard_schema.specs.Views.{schema_view}
use Rattle.guard_schema.specs.declared.fault.SchemaFault.{SchemaFault}
use Rattle.guard_schema.specs.declared.schema.Schema.{Schema}
use Rattle.guard_schema.specs.EachType.{IsFinished, HasTypesOf, HaveTheirTypes}
use Rattle.guard_schema.proofs.Filled.Unfinished.{bare_again}
use Rattle.guard_schema.proofs.Modules.Parts.{parts}
use Rattle.guard_schema.proofs.Sound.Built.{whole_sound}
use Rattle.guard_schema.proofs.Throughout.Values.{Grows}
use Rattle.guard_schema.proofs.Throughout.Finished.{type_grown}
use Rattle.guard_schema.proofs.Throughout.Tagged.{denoted_grown, at_front, found_more, known_more}
use Rattle.guard_schema.proofs.Throughout.Steps.{BuiltThere, built_there, at_seam}
use Rattle.guard_schema.proofs.Throughout.Numbers.{listed_place, first_assigned, its_number}

-- ---- the value of a definition that assigns none

none_some : {A B : Type 0} (x : A) → None ≡ Some x → B
none_some x e = absurd cc

unassigned : (names : Visible) (t : AbstractType) (tree : Option WrittenValue) (v : Option AbstractValue)
    → Assigns names t tree (Ok v) → v ≡ None → tree ≡ None
unassigned names t None v h e = refl
unassigned names t (Some tree) v (inl (w, h, k)) e = none_some w (sym e ∙ same_Ok v (Some w) k)
unassigned names t (Some tree) v (inr (f, h, k)) e = absurd cc

no_value : (names : Visible) (t : AbstractType) (tree : Option WrittenValue) (v : Option AbstractValue)
    → Assigns names t tree (Ok v) → tree ≡ None → v ≡ None
no_value names t None v h e = same_Ok v None h
no_value names t (Some tree) v h e = none_some tree (sym e)

-- ---- more is known where more is built

-- the surroundings of a definition, found by going through those before it
abbrev around : Known → Definition → Surroundings
around k d = surroundings_of k.modules k.order (types_of k.built) d

lifted : {A B : Type 0} (f : Option A → Option B) → f None ≡ None → (fewer more : Option A)
    → ((a : A) → fewer ≡ Some a → more ≡ Some a)
    → (x : B) → f fewer ≡ Some x → f more ≡ Some x
lifted f none None more to x h = none_some x (sym none ∙ h)
lifted f none (Some a) more to x h = ap f (to a refl) ∙ h

module _ (ms : List WrittenModule) (order : List ℕ) (before after : List Built) (home : List ℕ) where
  abbrev fewer : Known
  fewer = record { modules = ms; order = order; built = before }

  abbrev more : Known
  more = record { modules = ms; order = order; built = before ++ after }

  meant_more : (name : List ℕ) (b : Built) → meant fewer home name ≡ Some b → meant more home name ≡ Some b
  meant_more name b h = found_more before (before ++ after) (λ p x e. at_front before after p x e)
      (place_meant ms order home name) b h

  pub values_more : Grows (visible fewer home).values (visible more home).values
  values_more name g h = lifted governed refl (meant fewer home name) (meant more home name) (meant_more name) g h

  pub types_more : Grows (visible fewer home).types (visible more home).types
  types_more name t h = lifted type_alone refl (meant fewer home name) (meant more home name) (meant_more name) t h

  pub meanings_more : (d : Definition) → d.home.name ≡ home → Grows (around fewer d).meaning (around more d).meaning
  meanings_more d at name m h =
      subst (λ (ts : List AbstractType). option_and_then (slice_get (known_from ms order ts))
      (place_meant ms order d.home.name name) ≡ Some m)
      (sym (map-append (λ (b : Built). b.ty) before after))
      (found_more (known_from ms order (types_of before)) (known_from ms order (types_of before ++ types_of after))
      (λ p x e. known_more ms order (types_of before) (types_of after) p x e)
      (place_meant ms order d.home.name name) m h)

-- ---- one definition

-- what is built of a definition, and that it is the finishing of what its tree denotes
pub record IsBuilt (whole : Known) (d : Definition) (b : Built) : Type 0 where
  pub finished : IsFinished whole d b.ty
  pub without : b.value ≡ None → d.assignment.value ≡ None
  pub back : d.assignment.value ≡ None → b.value ≡ None

module _ (ms : List WrittenModule) (faultless : AreFaultless ms) (order : List ℕ)
    (ordered : IsOrder (length (definitions ms)) (Uses ms) order)
    (before : List Built) (b : Built) (after : List Built) (number : ℕ)
    (next : slice_get order (length before) ≡ Some number)
    (d : Definition) (is : slice_get (definitions ms) number ≡ Some d) where
  abbrev then : Known
  then = record { modules = ms; order = order; built = before }

  abbrev whole : Known
  whole = record { modules = ms; order = order; built = before ++ b ∷ after }

  same_denoted : denoted (around then d) d.assignment.ty ≡ denoted (around whole d) d.assignment.ty
  same_denoted =
      denoted_grown (tag_default_of d.home.tag_default) (around then d).meaning (around whole d).meaning
      (meanings_more ms order before (b ∷ after) d.home.name d refl) d.assignment.ty
      (known_in_type ms faultless.named order ordered (types_of before) (known_from ms order (types_of before))
      (known_in_order ms faultless.named order ordered (types_of before)) number
      (ap (slice_get order) (length-map before (λ (c : Built). c.ty)) ∙ next) d is)

  under_whole : IsWrittenUnder whole d (around whole d)
  under_whole = (
    known_from ms order (types_of (before ++ b ∷ after)),
    known_in_order ms faultless.named order ordered (types_of (before ++ b ∷ after)),
    refl,
  )

  -- what its tree denotes where those before it are built, it denotes where all are
  denoted_in_whole : (surroundings : Surroundings) → IsWrittenUnder then d surroundings
      → denoted surroundings d.assignment.ty ≡ denoted (around whole d) d.assignment.ty
  denoted_in_whole surroundings under =
      ap (λ (s : Surroundings). denoted s d.assignment.ty)
      (around_is ms faultless.named order ordered (types_of before) d surroundings under) ∙ same_denoted

  valued : (t : AbstractType) → HasValue then (visible then d.home.name) d.assignment t (Ok b)
      → (b.ty ≡ t) × (b.value ≡ None → d.assignment.value ≡ None) × (d.assignment.value ≡ None → b.value ≡ None)
  valued t (inl (v, assigned, inl (w, keeps, e))) =
      let same : b ≡ record { ty = t; value = v } = same_Ok b (record { ty = t; value = v }) e in
      let value : b.value ≡ v = ap (λ (c : Built). c.value) same in (
        ap (λ (c : Built). c.ty) same,
        λ none. unassigned (visible then d.home.name) t d.assignment.value v assigned (sym value ∙ none),
        λ none. value ∙ no_value (visible then d.home.name) t d.assignment.value v assigned none,
      )
  valued t (inl (v, assigned, inr (f, keeps, e))) = absurd cc
  valued t (inr (f, assigned, e)) = absurd cc

  pub is_built : Builds then d (Ok b) → IsBuilt whole d b
  is_built (inl (bare, tagged, inl (u, apart, inl (t, finished, value)))) =
      let has = valued t value in
      let made : Finishes (visible then d.home.name) d.assignment.ty bare (Ok b.ty) =
      subst (λ (x : AbstractType). Finishes (visible then d.home.name) d.assignment.ty bare (Ok x))
      (sym has.0) finished in
      let known : Finishes (visible whole d.home.name) d.assignment.ty bare (Ok b.ty) =
      type_grown (visible then d.home.name) (visible whole d.home.name)
      (values_more ms order before (b ∷ after) d.home.name)
      (types_more ms order before (b ∷ after) d.home.name) d.assignment.ty bare b.ty made in
      let all : Finishes (visible whole d.home.name) d.assignment.ty (denoted (around whole d) d.assignment.ty)
      (Ok b.ty) =
      subst (λ (x : AbstractType). Finishes (visible whole d.home.name) d.assignment.ty x (Ok b.ty))
      (tagged.2.1 ∙ denoted_in_whole tagged.0 tagged.1) known in
      record {
        finished = record {
          surroundings = around whole d;
          under = under_whole;
          finished = all;
          again =
              bare_again (visible whole d.home.name) d.assignment.ty
              (denoted (around whole d) d.assignment.ty) b.ty all;
        };
        without = has.1;
        back = has.2;
      }
  is_built (inl (bare, tagged, inl (u, apart, inr (f, finished, e)))) = absurd cc
  is_built (inl (bare, tagged, inr (f, apart, e))) = absurd cc
  is_built (inr (f, tagged, e)) = absurd cc

-- ---- all definitions

module _ (ms : List WrittenModule) (faultless : AreFaultless ms) (order : List ℕ)
    (ordered : IsOrder (length (definitions ms)) (Uses ms) order)
    (built : List Built) (builds : BuildsAll (none_known ms order) order (Ok built)) where
  abbrev complete : Known
  complete = record { modules = ms; order = order; built = built }

  -- the definition of this number, found as the schema finds it
  record Found (number : ℕ) (d : Definition) : Type 0 where
    place : ℕ
    ordered_at : place_in order number ≡ Some place
    definition : Built
    built_here : slice_get built place ≡ Some definition
    is : IsBuilt complete d definition

  found : (number : ℕ) (d : Definition) → slice_get (definitions ms) number ≡ Some d → Found number d
  found number d is =
      let at = listed_place order number (ordered.all number (slice_get_within (definitions ms) number d is)) in
      let there : BuiltThere ms order built (0 + at.0) number =
      built_there order (none_known ms order) built builds at.0 number (placed_there order number at.0 at.1) in
      let many : length there.before ≡ at.0 = (let n = there.many in omega (arith, n)) in
      let same : there.builds.0 ≡ d = same_Some there.builds.0 d (sym there.builds.1 ∙ is) in
      let one : IsBuilt (record { modules = ms; order = order; built = there.before ++ there.definition ∷ there.after })
      d there.definition =
      is_built ms faultless order ordered there.before there.definition there.after number
      (ap (slice_get order) many ∙ placed_there order number at.0 at.1) d is
      (subst (λ (x : Definition). Builds (record { modules = ms; order = order; built = there.before }) x
      (Ok there.definition)) same there.builds.2) in
      record {
        place = at.0;
        ordered_at = at.1;
        definition = there.definition;
        built_here = ap (λ (bs : List Built). slice_get bs at.0) there.split
            ∙ at_seam there.before there.definition there.after at.0 many;
        is = subst (λ (bs : List Built). IsBuilt
            (record { modules = ms; order = order; built = bs }) d there.definition) (sym there.split) one;
      }

  -- ---- by names

  abbrev type_at : Option ℕ → Option AbstractType
  type_at o = assigned_type (built_at built (option_and_then (place_in order) o))

  looked_up : (number : ℕ) (d : Definition) (f : Found number d)
      → type_at (Some number) ≡ type_unless f.definition.ty f.definition.value
  looked_up number d f =
      ap (λ (o : Option ℕ). assigned_type (built_at built o)) f.ordered_at
      ∙ ap (λ (o : Option Built). assigned_type o) f.built_here

  pub each : (d : Definition) → Contains (definitions ms) d → d.assignment.value ≡ None
      → (t : AbstractType) × ((schema_of complete).types d.home.name d.assignment.name ≡ Some t)
      × IsFinished complete d t
  each d (k, below, e) none =
      let there : slice_get (definitions ms) k ≡ Some d =
      slice_get-get_or (definitions ms) k d below ∙ ap (λ (x : Definition). Some x) e in
      let f = found k d there in (
        f.definition.ty,
        ap type_at (its_number ms (none_duplicate ms faultless.named) k d there) ∙ looked_up k d f
            ∙ ap (λ (v : Option AbstractValue). type_unless f.definition.ty v) (f.is.back none),
        f.is.finished,
      )

  without_value : (t u : AbstractType) (v : Option AbstractValue) → type_unless t v ≡ Some u → (v ≡ None) × (t ≡ u)
  without_value t u None h = (refl, same_Some t u h)
  without_value t u (Some v) h = none_some u h

  abbrev IsOfOne : List ℕ → List ℕ → AbstractType → Type 0
  IsOfOne home name t =
      (d : Definition) × Contains (definitions ms) d × (d.home.name ≡ home) × (d.assignment.name ≡ name)
      × (d.assignment.value ≡ None) × IsFinished complete d t

  pub only : (home name : List ℕ) (t : AbstractType) → (schema_of complete).types home name ≡ Some t
      → IsOfOne home name t
  only home name t h = by (number_assigned home name (definitions ms)) refl h
    where
      by : (o : Option ℕ) → number_assigned home name (definitions ms) ≡ o → type_at o ≡ Some t → IsOfOne home name t
      by None is e = none_some t e
      by (Some number) is e =
          let a = first_assigned home name (definitions ms) number is in
          let f = found number a.0 a.1 in
          let typed = without_value f.definition.ty t f.definition.value (sym (looked_up number a.0 f) ∙ e) in (
            a.0,
            (
              number,
              slice_get_within (definitions ms) number a.0 a.1,
              same_Some _ a.0
                  (sym (slice_get-get_or (definitions ms) number a.0 (slice_get_within (definitions ms) number a.0 a.1))
                  ∙ a.1),
            ),
            sym a.2,
            sym a.3,
            f.is.without typed.0,
            subst (λ (x : AbstractType). IsFinished complete a.0 x) typed.1 f.is.finished,
          )

-- ---- the law

pub have_their_types : HaveTheirTypes
have_their_types texts s a =
    let p = parts texts s a in
    let ms = p.modules in
    let faultless = p.ordered.0 in
    let ordered = p.ordered.1 in
    record {
      whole = complete ms faultless p.order ordered p.built p.builds;
      read = p.read;
      ordered = p.ordered;
      schema = p.schema;
      sound = whole_sound ms p.order p.built p.builds;
      each = λ d here none.
          let t = each ms faultless p.order ordered p.built p.builds d here none in
          (t.0, ap (λ (x : AbstractSchema). x.types d.home.name d.assignment.name) p.schema ∙ t.1, t.2);
      only = λ home name t h. only ms faultless p.order ordered p.built p.builds home name t
          (sym (ap (λ (x : AbstractSchema). x.types home name) p.schema) ∙ h);
    }

-- so it is with what a call answers
pub have_types : (texts : List (List ℕ)) (result : Result Schema SchemaFault)
    → Answers schema_view named result (Denotes texts)
    → IfOk result (λ s. HasTypesOf texts (schema_view s))
have_types texts (Ok s) h = have_their_types texts (schema_view s) h
have_types texts (Err e) h = tt
