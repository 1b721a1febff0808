-- Types of the same base have the same values, constraints aside.
use Rattle.std.proofs.Common.{◌≡◌, refl, sym, ◌∙◌, ap, ℕ, zero, suc, List, [], ◌∷◌, Bool, ◌&&◌, Option, Some}
use Rattle.guard_model.specs.declared.tag.Tag.{Tag}
use Rattle.guard_model.specs.AbstractType as type
use Rattle.guard_model.specs.AbstractType.{AbstractType, AbstractKind, AbstractPresence, Components, NamedNumber, type_of, no_components, component}
use Rattle.guard_model.specs.AbstractValue as value
use Rattle.guard_model.specs.AbstractValue.{AbstractValue, Fields, Items}
use Rattle.guard_model.specs.SameBase.{bare, bare_kind, bare_components, bare_names}
use Rattle.guard_der.specs.Der.{◌>>=◌, Part, der, contents_octets, alternative_octets, parts_of, part_unless, is_left_out, item_encodings, outermost, outermost_inside, outermost_alternative, is_constructed, joined, parts_joined, ascending}
use Rattle.guard_der.specs.Fits.{fits, fits_kind, fits_fields, fits_alternative, every_fits, are_few, are_ascending, may_be_absent, fits_bits, ends_as_named}

and_same : {a b c d : Bool} → a ≡ c → b ≡ d → (a && b) ≡ (c && d)
and_same e f = cc

-- ---- encodings

mutual
  outermost_bare : (t : AbstractType) (v : AbstractValue) → outermost (bare t) v ≡ outermost t v
  outermost_bare (type_of (t ∷ ts) kind cons) v = refl
  outermost_bare (type_of [] kind cons) v = outermost_kind kind v

  outermost_kind : (kind : AbstractKind) (v : AbstractValue) → outermost_inside (bare_kind kind) v ≡ outermost_inside kind v
  outermost_kind (type.choice cs) (value.chosen i v) = outermost_chosen cs i v
  outermost_kind _ _ = refl

  outermost_chosen : (cs : Components) (i : ℕ) (v : AbstractValue) → outermost_alternative (bare_components cs) i v ≡ outermost_alternative cs i v
  outermost_chosen no_components i v = refl
  outermost_chosen (component name t presence cs) zero v = outermost_bare t v
  outermost_chosen (component name t presence cs) (suc i) v = outermost_chosen cs i v

constructed_bare : (kind : AbstractKind) → is_constructed (bare_kind kind) ≡ is_constructed kind
constructed_bare (type.sequence cs) = refl
constructed_bare (type.set cs) = refl
constructed_bare (type.choice cs) = refl
constructed_bare (type.sequence_of t) = refl
constructed_bare (type.set_of t) = refl
constructed_bare _ = refl

encodings_same : (f g : AbstractValue → Option (List ℕ)) → ((v : AbstractValue) → f v ≡ g v) → (vs : Items) → item_encodings f vs ≡ item_encodings g vs
encodings_same f g same value.no_items = refl
encodings_same f g same (value.item v vs) = rw (same v, encodings_same f g same vs) refl

part_same : {a b : Tag} {x y : Option (List ℕ)} {p q : Option (List Part)} (left_out : Bool) → a ≡ b → x ≡ y → p ≡ q → part_unless left_out a x p ≡ part_unless left_out b y q
part_same left_out e f h = rw (e, f, h) refl

mutual
  der_bare : (t : AbstractType) (v : AbstractValue) → der (bare t) v ≡ der t v
  der_bare (type_of tags kind cons) v = rw (contents_bare kind v, constructed_bare kind) refl

  contents_bare : (kind : AbstractKind) (v : AbstractValue) → contents_octets (bare_kind kind) v ≡ contents_octets kind v
  contents_bare (type.sequence cs) (value.fields fs) = ap (λ (x : Option (List Part)). x >>= λ ps. Some (parts_joined ps)) (parts_bare cs fs)
  contents_bare (type.set cs) (value.fields fs) = ap (λ (x : Option (List Part)). x >>= λ ps. Some (parts_joined (ascending ps))) (parts_bare cs fs)
  contents_bare (type.choice cs) (value.chosen i v) = alternative_bare cs i v
  contents_bare (type.sequence_of t) (value.items vs) =
      ap (λ (x : Option (List (List ℕ))). x >>= λ es. Some (joined es)) (encodings_same (der (bare t)) (der t) (λ v. der_bare t v) vs)
  contents_bare (type.set_of t) (value.items vs) =
      ap (λ (x : Option (List (List ℕ))). x >>= λ es. Some (joined es)) (encodings_same (der (bare t)) (der t) (λ v. der_bare t v) vs)
  contents_bare _ _ = refl

  alternative_bare : (cs : Components) (i : ℕ) (v : AbstractValue) → alternative_octets (bare_components cs) i v ≡ alternative_octets cs i v
  alternative_bare no_components i v = refl
  alternative_bare (component name t presence cs) zero v = der_bare t v
  alternative_bare (component name t presence cs) (suc i) v = alternative_bare cs i v

  parts_bare : (cs : Components) (fs : Fields) → parts_of (bare_components cs) fs ≡ parts_of cs fs
  parts_bare no_components value.no_fields = refl
  parts_bare no_components (value.absent fs) = refl
  parts_bare no_components (value.present v fs) = refl
  parts_bare (component name t presence cs) value.no_fields = refl
  parts_bare (component name t presence cs) (value.absent fs) = parts_bare cs fs
  parts_bare (component name t presence cs) (value.present v fs) =
      part_same (is_left_out presence v) (outermost_bare t v) (der_bare t v) (parts_bare cs fs)

-- ---- values

every_same : (f g : AbstractValue → Bool) → ((v : AbstractValue) → f v ≡ g v) → (vs : Items) → every_fits f vs ≡ every_fits g vs
every_same f g same value.no_items = refl
every_same f g same (value.item v vs) = and_same (same v) (every_same f g same vs)

-- of named bits it counts whether there are any
named_alike : (names : List NamedNumber) (os : List ℕ) (unused : ℕ) → ends_as_named (bare_names names) os unused ≡ ends_as_named names os unused
named_alike [] os unused = refl
named_alike (n ∷ ns) os unused = refl

mutual
  fits_bare : (t : AbstractType) (v : AbstractValue) → fits (bare t) v ≡ fits t v
  fits_bare (type_of tags kind cons) v = kind_bare kind v

  pub kind_bare : (kind : AbstractKind) (v : AbstractValue) → fits_kind (bare_kind kind) v ≡ fits_kind kind v
  kind_bare (type.bit_string names) (value.bit_string os unused) = and_same {a = fits_bits os unused} refl (named_alike names os unused)
  kind_bare (type.sequence cs) (value.fields fs) = fields_bare cs fs
  kind_bare (type.set cs) (value.fields fs) = fields_bare cs fs
  kind_bare (type.choice cs) (value.chosen i v) = chosen_bare cs i v
  kind_bare (type.sequence_of t) (value.items vs) = and_same {a = are_few vs} refl (every_same (fits (bare t)) (fits t) (λ v. fits_bare t v) vs)
  kind_bare (type.set_of t) (value.items vs) =
      and_same (and_same {a = are_few vs} refl (every_same (fits (bare t)) (fits t) (λ v. fits_bare t v) vs))
      (ap are_ascending (encodings_same (der (bare t)) (der t) (λ v. der_bare t v) vs))
  kind_bare _ _ = refl

  fields_bare : (cs : Components) (fs : Fields) → fits_fields (bare_components cs) fs ≡ fits_fields cs fs
  fields_bare no_components value.no_fields = refl
  fields_bare no_components (value.absent fs) = refl
  fields_bare no_components (value.present v fs) = refl
  fields_bare (component name t presence cs) value.no_fields = refl
  fields_bare (component name t presence cs) (value.absent fs) = and_same {a = may_be_absent presence} refl (fields_bare cs fs)
  fields_bare (component name t presence cs) (value.present v fs) = and_same (fits_bare t v) (fields_bare cs fs)

  chosen_bare : (cs : Components) (i : ℕ) (v : AbstractValue) → fits_alternative (bare_components cs) i v ≡ fits_alternative cs i v
  chosen_bare no_components i v = refl
  chosen_bare (component name t presence cs) zero v = fits_bare t v
  chosen_bare (component name t presence cs) (suc i) v = chosen_bare cs i v

pub same_fits : (a b : AbstractKind) (v : AbstractValue) → bare_kind a ≡ bare_kind b → fits_kind a v ≡ fits_kind b v
same_fits a b v e = sym (kind_bare a v) ∙ ap (λ k. fits_kind k v) e ∙ kind_bare b v
