-- What names mean by what the code keeps is what they mean by the definitions.
use Rattle.std.proofs.Common.{◌≡◌, ℕ, zero, suc, List, [], ◌∷◌, length, Option, Some, None}
use Rattle.std.proofs.Common.{option_map, slice_get, refl, sym, ap, subst, ◌∙◌, IsTrue, arith}
use Rattle.std.specs.Prelude.{IfSome, All, option_and_then}
use Rattle.std.proofs.Math.Path.{fun_ext}
use Rattle.std.proofs.lemmas.Option.{same_Some}
use Rattle.std.proofs.lemmas.List.Elements.{All-head, All-tail}
use Rattle.guard_der.specs.Fits.{fits}
use Rattle.guard_der.specs.Sound.{is_sound}
use Rattle.guard_model.specs.AbstractValue.{AbstractValue}
use Rattle.guard_model.specs.AbstractType.{AbstractType}
use Rattle.guard_model.specs.TypeView.{shared_type_view}
use Rattle.guard_model.specs.declared.ty.Ty.{Ty}
use Rattle.guard_model.specs.declared.value.Value.{Value}
use Rattle.std.specs.Global.{Global}
use Rattle.std.specs.declared.sync.Arc.{Arc}
use Rattle.guard_names.specs.Declarations.{Definition, definitions}
use Rattle.guard_names.specs.Meanings.{number_meant}
use Rattle.guard_names.specs.Places.{place_in, place_meant}
use Rattle.guard_names.specs.NamesView.{modules_of}
use Rattle.guard_values.specs.Meanings.{Meaning}
use Rattle.guard_values.specs.declared.scope.Known as code
use Rattle.guard_values.specs.Views.{known_pair, known_definition, placed_type, place_from, visible_from}
use Rattle.guard_values.specs.Views.{types_from, shared_view, AreKnownFitting}
use Rattle.guard_constraints.specs.Views.{visible_at, AreKnownSound}
use Rattle.guard_schema.specs.declared.progress.Progress.{Progress}
use Rattle.guard_schema.specs.Known.{Built, built_at, governed, governed_value, type_alone, visible, meant}
use Rattle.guard_schema.specs.Pairs.{paired, AreBuilt}
use Rattle.guard_schema.specs.Views.{built_in, known_view}

-- ---- at one place

value_there : (t : Arc Ty Global) (v : Option (Arc Value Global)) → governed_value (shared_type_view t) (option_map shared_view v)
    ≡ known_pair (Some t)
    (Some v)
value_there t None = refl
value_there t (Some v) = refl

no_value : (t : Option (Arc Ty Global)) → None ≡ known_pair t None
no_value None = refl
no_value (Some t) = refl

pub governed_at : (ts : List (Arc Ty Global)) (vs : List (Option (Arc Value Global))) (place : ℕ)
    → governed (slice_get (paired ts vs) place) ≡ known_pair (slice_get ts place) (slice_get vs place)
governed_at [] vs place = refl
governed_at (t ∷ ts) [] place = no_value (slice_get (t ∷ ts) place)
governed_at (t ∷ ts) (v ∷ vs) zero = value_there t v
governed_at (t ∷ ts) (v ∷ vs) (suc place) = governed_at ts vs place

type_there : (ts : List (Arc Ty Global)) (vs : List (Option (Arc Value Global))) (place : ℕ) → length vs ≡ length ts
    → type_alone (slice_get (paired ts vs) place) ≡ option_map shared_type_view (slice_get ts place)
type_there [] vs place e = refl
type_there (t ∷ ts) [] place e = absurd (omega (arith, e))
type_there (t ∷ ts) (v ∷ vs) zero e = refl
type_there (t ∷ ts) (v ∷ vs) (suc place) e = type_there ts vs place (less e)
  where
    less : {p q : ℕ} → suc p ≡ suc q → p ≡ q
    less h' = omega (arith, h')

-- ---- by a name

pub values_placed : (known : code.Known) (place : Option ℕ)
    → known_definition known place ≡ governed (built_at (paired known.types.items known.values.items) place)
values_placed known None = refl
values_placed known (Some place) = sym (governed_at known.types.items known.values.items place)

module _ (p : Progress) where
  values_found : (place : Option ℕ) → known_definition p.known place ≡ governed (built_at (built_in p) place)
  values_found place = values_placed p.known place

  types_found : (place : Option ℕ) → placed_type p.known place ≡ type_alone (built_at (built_in p) place)
  types_found None = refl
  types_found (Some place) = sym (type_there p.known.types.items p.known.values.items place p.known.even)

  pub visible_same : (id : ℕ) (d : Definition) → Some d ≡ slice_get (definitions (modules_of p.names.now)) id
      → visible_at p.names.now p.known id ≡ visible (known_view p) d.home.name
  visible_same id d is =
      let home = d.home.name in
      let k = known_view p in
      let ms = modules_of p.names.now in
      let place : List ℕ → Option ℕ = λ name. place_meant ms k.order home name in
      let there : (name : List ℕ) → place_from p.names.now id name ≡ place name =
      λ name. ap (λ (o : Option Definition). option_and_then (place_in k.order)
      (option_and_then (λ x. number_meant ms x.home.name name) o)) (sym is) in
      let values : visible_from p.names.now p.known id ≡ (λ name. governed (meant k home name)) =
      fun_ext (λ name. ap (known_definition p.known) (there name) ∙ values_found (place name)) in
      let types : types_from p.names.now p.known id ≡ (λ name. type_alone (meant k home name)) =
      fun_ext (λ name. ap (placed_type p.known) (there name) ∙ types_found (place name)) in
      ap (λ (m : Meaning). record { values = m; types = types_from p.names.now p.known id }) values
      ∙ ap (λ (m : List ℕ → Option AbstractType). record { values = λ name. governed (meant k home name); types = m })
      types

-- ---- what is known is sound and fits

pub all_at : {X : Type 0} (P : X → Type 0) (xs : List X) (place : ℕ) (x : X) → All P xs → slice_get xs place ≡ Some x
    → P x
all_at P [] place x h e = absurd cc
all_at P (y ∷ xs) zero x h e = subst P (same_Some y x e) (All-head P y xs h)
all_at P (y ∷ xs) (suc place) x h e = all_at P xs place x (All-tail P y xs h) e

fits_there : (t : AbstractType) (v : Option AbstractValue) → IfSome v (λ w. IsTrue (fits t w))
    → IfSome (governed_value t v) (λ g. IsTrue (fits g.ty g.value))
fits_there t None h = tt
fits_there t (Some v) h = h

fits_found : (b : Option Built) → ((c : Built) → b ≡ Some c → IfSome c.value (λ w. IsTrue (fits c.ty w)))
    → IfSome (governed b) (λ g. IsTrue (fits g.ty g.value))
fits_found None h = tt
fits_found (Some b) h = fits_there b.ty b.value (h b refl)

sound_found : (t : Option (Arc Ty Global)) → ((u : Arc Ty Global) → t ≡ Some u → IsTrue (is_sound (shared_type_view u)))
    → IfSome (option_map shared_type_view t) (λ u. IsTrue (is_sound u))
sound_found None h = tt
sound_found (Some t) h = h t refl

pub all_fitting : (known : code.Known)
    → All (λ (c : Built). IfSome c.value (λ w. IsTrue (fits c.ty w))) (paired known.types.items known.values.items)
    → AreKnownFitting known
all_fitting known fitting place =
    subst (λ g. IfSome g (λ h. IsTrue (fits h.ty h.value))) (governed_at known.types.items known.values.items place)
    (fits_found (slice_get (paired known.types.items known.values.items) place)
    (λ b e. all_at (λ (c : Built). IfSome c.value (λ w. IsTrue (fits c.ty w)))
    (paired known.types.items known.values.items) place b fitting e))

known_fitting : (p : Progress) → AreKnownFitting p.known
known_fitting p = all_fitting p.known p.fitting

known_sound : (p : Progress) → AreKnownSound p.known
known_sound p place = sound_found (slice_get p.known.types.items place)
    (λ t e. all_at (λ (u : Arc Ty Global). IsTrue (is_sound (shared_type_view u))) p.known.types.items place t p.sound e)

pub known_built : (p : Progress) → AreBuilt p.known
known_built p = (known_sound p, known_fitting p)
