-- Where all that is built before it is sound, the type of a definition is ready to be finished by its tags, and sound
-- when it is finished.
use Rattle.std.proofs.Common.{◌≡◌, ◌+◌, inl, inr, ℕ, ◌&&◌, List, [], ◌∷◌, Option, Some, None, Ok, option_map, slice_get}
use Rattle.std.proofs.Common.{IsTrue, true, false, refl, sym, ap, subst, ◌∙◌}
use Rattle.std.specs.Prelude.{All, IfSome, nat_le}
use Rattle.std.specs.Option.{option_and_then}
use Rattle.std.proofs.lemmas.Bool.{and_parts, and_from}
use Rattle.std.proofs.lemmas.List.Elements.{All-nil, All-cons, All-head, All-tail}
use Rattle.guard_model.specs.AbstractType.{AbstractType}
use Rattle.guard_model.specs.AbstractValue.{AbstractValue}
use Rattle.guard_model.specs.Limits.{deepest_nesting}
use Rattle.guard_model.specs.TypeView.{shared_type_view}
use Rattle.guard_model.specs.declared.ty.Ty.{Ty}
use Rattle.guard_model.specs.declared.value.Value.{Value}
use Rattle.std.specs.Global.{Global}
use Rattle.std.specs.declared.sync.Arc.{Arc}
use Rattle.guard_tagcheck.specs.Distinct.{Distinct}
use Rattle.guard_tagcheck.specs.Limits.{nesting, keeps_limits, is_within_limits}
use Rattle.guard_tagcheck.proofs.NoClash.{none_where_distinct}
use Rattle.guard_der.specs.Fits.{fits}
use Rattle.guard_der.specs.Sound.{is_sound, is_proper, has_distinct_tags, none_clash}
use Rattle.guard_eval.proofs.Soundness.{sound_within_limits}
use Rattle.guard_names.specs.Declarations.{Definition}
use Rattle.guard_names.specs.Places.{place_meant}
use Rattle.guard_tagging.specs.Faults.{nodes}
use Rattle.guard_tagging.specs.Surroundings.{nodes_of_all}
use Rattle.guard_tagging.specs.Tagged.{KeepLimits, IsTagged}
use Rattle.guard_tagging.specs.Types.{Meaning, Surroundings, denoted}
use Rattle.guard_tagging.proofs.Types.Denoted.{within}
use Rattle.guard_values.specs.Meanings.{AreFitting}
use Rattle.guard_constraints.proofs.Denoted.WrittenValues.{sound_proper}
use Rattle.guard_schema.specs.Known.{Built, Known, IsSoundBuilt, types_of, governed_value, governed, type_alone, meant}
use Rattle.guard_schema.specs.Known.{visible, IsWrittenUnder}
use Rattle.guard_schema.specs.Finishing.{Finishes}
use Rattle.guard_schema.specs.FinishedSound.{AreSound}
use Rattle.guard_schema.specs.Pairs.{paired}
use Rattle.guard_schema.specs.inside.Ready.{IsMadeUp, is_shaped, IsReady}
use Rattle.guard_schema.proofs.Built.Visible.{all_at}
use Rattle.guard_schema.proofs.Built.Types.{types_agree}
use Rattle.guard_schema.proofs.Filled.ReadyTypes.{made_up}
use Rattle.guard_schema.proofs.Sound.Finished.{type_sound}

-- ---- what names mean is sound

module _ (k : Known) (all : All IsSoundBuilt k.built) (home : List ℕ) where
  there : (place : Option ℕ) (b : Built) → option_and_then (slice_get k.built) place ≡ Some b → IsSoundBuilt b
  there None b e = absurd cc
  there (Some p) b e = all_at IsSoundBuilt k.built p b all e

  pub fitting : AreFitting (visible k home).values
  fitting name = by (meant k home name) refl
    where
      of_value : (b : Built) (v : Option AbstractValue) → IfSome v (λ w. IsTrue (fits b.ty w))
          → IfSome (governed_value b.ty v) (λ g. IsTrue (fits g.ty g.value))
      of_value b None h = tt
      of_value b (Some v) h = h

      by : (o : Option Built) → meant k home name ≡ o → IfSome (governed o) (λ g. IsTrue (fits g.ty g.value))
      by None e = tt
      by (Some b) e = of_value b b.value (there (place_meant k.modules k.order home name) b e).1

  pub sound_types : (name : List ℕ) (u : AbstractType) → (visible k home).types name ≡ Some u → IsTrue (is_sound u)
  sound_types name u h = by (meant k home name) refl h
    where
      same : (x y : AbstractType) → ◌≡◌ {A = Option AbstractType} (Some x) (Some y) → x ≡ y
      same x y e = cc

      by : (o : Option Built) → meant k home name ≡ o → type_alone o ≡ Some u → IsTrue (is_sound u)
      by None e f = absurd cc
      by (Some b) e f = subst (λ (x : AbstractType). IsTrue (is_sound x)) (same b.ty u f)
          (there (place_meant k.modules k.order home name) b e).0

-- ---- the type of a definition

module _ (k : Known) (d : Definition) (surroundings : Surroundings) (under : IsWrittenUnder k d surroundings)
    (all : All IsSoundBuilt k.built) where
  agree : (name : List ℕ) → (visible k d.home.name).types name ≡ option_map (λ m. m.ty) (surroundings.meaning name)
  agree name = types_agree k d surroundings under name

  proper_types : (name : List ℕ) (u : AbstractType) → (visible k d.home.name).types name ≡ Some u → IsTrue (is_proper u)
  proper_types name u h = sound_proper u (sound_types k all d.home.name name u h)

  limits : KeepLimits surroundings
  limits name = by (surroundings.meaning name) refl
    where
      by : (o : Option Meaning) → surroundings.meaning name ≡ o → IfSome o (λ m. is_within_limits m.ty ≡ true)
      by None e = tt
      by (Some m) e = sound_within_limits m.ty
          (sound_types k all d.home.name name m.ty (agree name ∙ ap (option_map (λ m. m.ty)) e))

  pub ready : (bare : AbstractType) → IsTagged surroundings (nodes_of_all (types_of k.built)) d.assignment.ty bare
      → Distinct bare → IsReady (visible k d.home.name) d.assignment.ty bare
  ready bare tagged distinct =
      let before = nodes_of_all (types_of k.built) in (
        subst (λ (x : AbstractType). IsMadeUp (visible k d.home.name) d.assignment.ty x) (sym tagged.1)
            (made_up (visible k d.home.name) surroundings agree proper_types false before
            (before + nodes (denoted surroundings d.assignment.ty)) d.assignment.ty tagged.2 tagged.0),
        and_from (has_distinct_tags bare) (nat_le (nesting bare) deepest_nesting)
            (ap none_clash ((none_where_distinct bare).1 distinct))
            (and_parts (keeps_limits bare) (nat_le (nesting bare) deepest_nesting)
            (within surroundings limits before d.assignment.ty bare tagged)).1,
      )

-- ---- the law

pub are_sound : AreSound
are_sound k d surroundings bare t under all tagged distinct finished =
    type_sound (visible k d.home.name) (fitting k all d.home.name) (sound_types k all d.home.name) d.assignment.ty
    bare t
    (ready k d surroundings under all bare tagged distinct) finished

-- ---- what is kept side by side

pub paired_sound : (ts : List (Arc Ty Global)) (vs : List (Option (Arc Value Global)))
    → All (λ t. IsTrue (is_sound (shared_type_view t))) ts
    → All (λ b. IfSome b.value (λ v. IsTrue (fits b.ty v))) (paired ts vs) → All IsSoundBuilt (paired ts vs)
paired_sound [] vs h l = All-nil IsSoundBuilt
paired_sound (t ∷ ts) [] h l = All-nil IsSoundBuilt
paired_sound (t ∷ ts) (v ∷ vs) h l =
    All-cons IsSoundBuilt _ (paired ts vs) (
      All-head (λ (u : Arc Ty Global). IsTrue (is_sound (shared_type_view u))) t ts h,
      All-head (λ (b : Built). IfSome b.value (λ w. IsTrue (fits b.ty w))) _ (paired ts vs) l,
    )
    (paired_sound ts vs (All-tail (λ (u : Arc Ty Global). IsTrue (is_sound (shared_type_view u))) t ts h)
    (All-tail (λ (b : Built). IfSome b.value (λ w. IsTrue (fits b.ty w))) _ (paired ts vs) l))
