-- The type that a name means where constraints and values are written is the one that it means where tags are.
use Rattle.std.proofs.Common.{◌≡◌, ℕ, suc, Bool, true, false, cond, List, [], ◌∷◌, length, map, take, Option}
use Rattle.std.proofs.Common.{Some, None, option_map, slice_get, nat_eq, refl, sym, ap, ◌∙◌}
use Rattle.std.specs.Option.{option_and_then}
use Rattle.guard_model.specs.AbstractType.{AbstractType}
use Rattle.guard_names.specs.Declarations.{Definition}
use Rattle.guard_names.specs.Meanings.{number_meant}
use Rattle.guard_names.specs.Places.{place_in}
use Rattle.guard_tagging.specs.Types.{Meaning, Surroundings}
use Rattle.guard_tagging.proofs.Definitions.Meanings.{types_taken}
use Rattle.guard_schema.specs.Known.{Built, Known, types_of, type_alone, visible, IsWrittenUnder}

-- ---- of the definition at one place

-- the types of what is known
abbrev types_known : List Meaning → List AbstractType
types_known known = map (λ m. m.ty) known

no_type : (place : Option ℕ) → type_alone (option_and_then (slice_get []) place) ≡ None
no_type None = refl
no_type (Some place) = refl

no_meaning : (place : Option ℕ) → None ≡ option_map (λ (m : Meaning). m.ty) (option_and_then (slice_get []) place)
no_meaning None = refl
no_meaning (Some place) = refl

later_type : (b : Built) (bs : List Built) (place : Option ℕ)
    → type_alone (option_and_then (slice_get (b ∷ bs)) (option_map suc place)) ≡ type_alone
    (option_and_then (slice_get bs) place)
later_type b bs None = refl
later_type b bs (Some place) = refl

later_meaning : (m : Meaning) (known : List Meaning) (place : Option ℕ)
    → option_and_then (slice_get (m ∷ known)) (option_map suc place) ≡ option_and_then (slice_get known) place
later_meaning m known None = refl
later_meaning m known (Some place) = refl

type_placed : (order : List ℕ) (known : List Meaning) (bs : List Built) (number : ℕ)
    → types_known known ≡ take (length order) (types_of bs)
    → type_alone (option_and_then (slice_get bs) (place_in order number)) ≡ option_map (λ m. m.ty)
    (option_and_then (slice_get known) (place_in order number))
type_placed [] known bs number e = refl
type_placed (n ∷ order) [] [] number e = no_type (place_in (n ∷ order) number)
    ∙ no_meaning (place_in (n ∷ order) number)
type_placed (n ∷ order) [] (b ∷ bs) number e = absurd cc
type_placed (n ∷ order) (m ∷ known) [] number e = absurd cc
type_placed (n ∷ order) (m ∷ known) (b ∷ bs) number e =
    by (nat_eq number n) (type_placed order known bs number (rest e))
  where
    rest : types_known (m ∷ known) ≡ take (suc (length order)) (types_of (b ∷ bs))
        → types_known known ≡ take (length order) (types_of bs)
    rest d = cc

    first : types_known (m ∷ known) ≡ take (suc (length order)) (types_of (b ∷ bs)) → Some b.ty ≡ Some m.ty
    first d = cc

    by : (here : Bool) → type_alone (option_and_then (slice_get bs) (place_in order number)) ≡ option_map (λ m. m.ty)
        (option_and_then (slice_get known) (place_in order number))
        → type_alone (option_and_then (slice_get (b ∷ bs))
        (cond here (Some 0) (option_map suc (place_in order number))))
        ≡ option_map (λ m. m.ty) (option_and_then (slice_get (m ∷ known))
        (cond here (Some 0) (option_map suc (place_in order number))))
    by true others = first e
    by false others = later_type b bs (place_in order number) ∙ others
        ∙ sym (ap (option_map (λ m. m.ty)) (later_meaning m known (place_in order number)))

-- ---- by a name

module _ (k : Known) (d : Definition) (surroundings : Surroundings) (under : IsWrittenUnder k d surroundings) where
  by_number : (number : Option ℕ) → type_alone (option_and_then (slice_get k.built)
      (option_and_then (place_in k.order) number))
      ≡ option_map (λ m. m.ty) (option_and_then (slice_get under.0) (option_and_then (place_in k.order) number))
  by_number None = refl
  by_number (Some number) = type_placed k.order under.0 k.built number
      (types_taken k.modules k.order (types_of k.built) under.0 under.1)

  pub types_agree : (name : List ℕ)
      → (visible k d.home.name).types name ≡ option_map (λ m. m.ty) (surroundings.meaning name)
  types_agree name =
      by_number (number_meant k.modules d.home.name name)
      ∙ ap (λ (s : Surroundings). option_map (λ m. m.ty) (s.meaning name)) (sym under.2)
