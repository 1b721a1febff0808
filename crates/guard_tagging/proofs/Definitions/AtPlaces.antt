-- What is known of a definition is at its place in the order.
use Rattle.std.proofs.Common.{◌≡◌, ℕ, zero, suc, Bool, true, List, [], ◌∷◌, map, Option, Some, None, option_map, slice_get, refl, sym, ◌∙◌, ap}
use Rattle.std.specs.Global.{Global}
use Rattle.std.specs.declared.sync.Arc.{Arc}
use Rattle.std.specs.Prelude.{IfSome}
use Rattle.std.specs.Option.{option_and_then, unwrap_or}
use Rattle.std.proofs.lemmas.Option.{same_Some, slice_get-map}
use Rattle.guard_model.specs.AbstractType.{AbstractType}
use Rattle.guard_model.specs.TypeView.{shared_type_view}
use Rattle.guard_model.specs.declared.ty.Ty.{Ty}
use Rattle.guard_syntax.specs.Trees.{WrittenModule}
use Rattle.guard_syntax.specs.declared.tree.TagDefault.{TagDefault}
use Rattle.guard_syntax.specs.declared.tree.TagDefault.TheVariants as by_default
use Rattle.guard_names.specs.Declarations.{Definition, definitions}
use Rattle.guard_names.specs.Meanings.{number_meant, number_meant_from}
use Rattle.guard_names.specs.Places.{place_in, place_meant}
use Rattle.guard_tagcheck.specs.Limits.{is_within_limits}
use Rattle.guard_tagging.specs.declared.scope.Known.{Known}
use Rattle.guard_tagging.specs.ScopeView.{meaning_view, known_list}
use Rattle.guard_tagging.specs.Surroundings.{surroundings, tag_default_of}
use Rattle.guard_tagging.specs.Tagged.{KeepLimits}
use Rattle.guard_tagging.specs.Types.{Meaning, Surroundings}

-- ---- a type and its flag, at one place

abbrev pub both : Option AbstractType → Option Bool → Option Meaning
both None flag = None
both (Some t) None = None
both (Some t) (Some b) = Some (record { ty = t; is_automatic = b })

pub known_at : (types : List AbstractType) (automatic : List Bool) (place : ℕ)
    → slice_get (known_list types automatic) place ≡ both (slice_get types place) (slice_get automatic place)
known_at [] automatic place = refl
known_at (t ∷ types) [] place = by (slice_get (t ∷ types) place)
  where
    by : (x : Option AbstractType) → None ≡ both x None
    by None = refl
    by (Some y) = refl
known_at (t ∷ types) (b ∷ automatic) zero = refl
known_at (t ∷ types) (b ∷ automatic) (suc place) = known_at types automatic place

-- ---- what is known of the definition that a name means, by its number and its place

pub known_placed : (order : List ℕ) (known : List Meaning) (number : Option ℕ) (id : ℕ)
    (place : Option ℕ) → number ≡ Some id → place_in order id ≡ place
    → option_and_then (slice_get known) (option_and_then (place_in order) number)
    ≡ option_and_then (slice_get known) place
known_placed order known number id place n p =
    ap (λ (o : Option ℕ). option_and_then (slice_get known) (option_and_then (place_in order) o)) n
    ∙ ap (option_and_then (slice_get known)) p

-- ---- what is written in a definition is written under the surroundings of its module

default_is : (o : Option TagDefault) (found : TagDefault) → found ≡ unwrap_or o by_default.Explicit → found ≡ tag_default_of o
default_is None found is = is
default_is (Some t) found is = is

pub scope_is : (ms : List WrittenModule) (order : List ℕ) (known : List Meaning) (id : ℕ) (home : WrittenModule)
    (found : TagDefault) → found ≡ unwrap_or home.tag_default by_default.Explicit
    → (d : Definition) × (Some d ≡ slice_get (definitions ms) id) × (d.home ≡ home)
    → ◌≡◌ {A = Surroundings} (record {
      tag_default = found;
      meaning = λ name. option_and_then (slice_get known)
          (option_and_then (place_in order) (number_meant_from ms id name));
    }) (surroundings ms order known home)
scope_is ms order known id home found tags (d, is, at) = λ i. record {
  tag_default = default_is home.tag_default found tags i;
  meaning = λ name. option_and_then (slice_get known) (option_and_then (place_in order) (number name i));
}
  where
    number : (name : List ℕ) → number_meant_from ms id name ≡ number_meant ms home.name name
    number name =
        ap (λ (o : Option Definition). option_and_then (λ x. number_meant ms x.home.name name) o) (sym is)
        ∙ ap (λ (m : WrittenModule). number_meant ms m.name name) at

-- ---- what a look-up among the built definitions answers

both_none : (t : Option AbstractType) → both t None ≡ None
both_none None = refl
both_none (Some t) = refl

module _ (types : List (Arc Ty Global)) (automatic : List Bool) (place : ℕ) where
  types_at : (t : Option (Arc Ty Global)) → t ≡ slice_get types place
      → slice_get (map shared_type_view types) place ≡ option_map shared_type_view t
  types_at t h = slice_get-map shared_type_view types place ∙ ap (option_map shared_type_view) (sym h)

  pub no_type : (r : Option Known) → r ≡ None → None ≡ slice_get types place
      → option_map meaning_view r ≡ slice_get (known_list (map shared_type_view types) automatic) place
  no_type r e h =
      ap (option_map meaning_view) e ∙ sym (known_at (map shared_type_view types) automatic place
      ∙ ap (λ t. both t (slice_get automatic place)) (types_at None h))

  pub no_flag : (r : Option Known) → r ≡ None → None ≡ slice_get automatic place
      → option_map meaning_view r ≡ slice_get (known_list (map shared_type_view types) automatic) place
  no_flag r e h =
      ap (option_map meaning_view) e ∙ sym (known_at (map shared_type_view types) automatic place
      ∙ ap (both (slice_get (map shared_type_view types) place)) (sym h) ∙ both_none (slice_get (map shared_type_view types) place))

  pub type_and_flag : (t : Arc Ty Global) (b : Bool) → Some t ≡ slice_get types place → Some b ≡ slice_get automatic place
      → Some (record { ty = shared_type_view t; is_automatic = b })
      ≡ slice_get (known_list (map shared_type_view types) automatic) place
  type_and_flag t b h g =
      sym (known_at (map shared_type_view types) automatic place
      ∙ ap (λ x. both x (slice_get automatic place)) (types_at (Some t) h) ∙ ap (both (Some (shared_type_view t))) (sym g))

-- ---- what is known keeps the limits

is_type : (t : Option AbstractType) (b : Option Bool) (m : Meaning) → both t b ≡ Some m → t ≡ Some m.ty
is_type None b m h = absurd cc
is_type (Some t) None m h = absurd cc
is_type (Some t) (Some b) m h = ap (λ (x : Meaning). Some x.ty) (same_Some _ m h)

module _ (types : List AbstractType) (automatic : List Bool)
    (limits : (place : ℕ) (t : AbstractType) → slice_get types place ≡ Some t → is_within_limits t ≡ true) where
  kept_at : (place : ℕ) (found : Option Meaning) → slice_get (known_list types automatic) place ≡ found
      → IfSome found (λ m. is_within_limits m.ty ≡ true)
  kept_at place None e = tt
  kept_at place (Some m) e =
      limits place m.ty (is_type (slice_get types place) (slice_get automatic place) m
      (sym (known_at types automatic place) ∙ e))

  meant_kept : (place : Option ℕ) → IfSome (option_and_then
      (slice_get (known_list types automatic)) place) (λ m. is_within_limits m.ty ≡ true)
  meant_kept None = tt
  meant_kept (Some place) = kept_at place (slice_get (known_list types automatic) place) refl

  pub known_kept : (ms : List WrittenModule) (order : List ℕ) (home : WrittenModule)
      → KeepLimits (surroundings ms order (known_list types automatic) home)
  known_kept ms order home = λ name. meant_kept (place_meant ms order home.name name)
