-- Named numbers, sites and constraints have no part in values and encodings.
use Rattle.std.proofs.Common.{◌≡◌, ℕ, zero, suc, ◌&&◌, List, [], ◌∷◌, Some, refl, sym, ap, ◌∙◌}
use Rattle.std.proofs.Math.Path.{fun_ext}
use Rattle.guard_model.specs.AbstractType as type
use Rattle.guard_model.specs.AbstractType.{AbstractType, AbstractKind, Components, Constraints, NamedNumber, type_of, no_components, component, no_constraints}
use Rattle.guard_model.specs.AbstractValue as value
use Rattle.guard_model.specs.AbstractValue.{AbstractValue, Fields}
use Rattle.guard_model.specs.SameBase.{bare, bare_kind, bare_components, bare_names, HasSameBase}
use Rattle.guard_model.specs.declared.tag.Tag.{Tag}
use Rattle.guard_der.specs.Der.{der, contents_octets, alternative_octets, parts_of, parts_joined, ascending, joined, item_encodings, outermost, outermost_inside, outermost_alternative, is_constructed, ◌>>=◌}
use Rattle.guard_der.specs.Element.{tagged}
use Rattle.guard_der.specs.Fits.{fits, fits_kind, fits_fields, fits_alternative, fits_items, fits_set, may_be_absent, fits_bits, ends_as_named}

-- ---- encodings

constructed_bare : (kind : AbstractKind) → is_constructed (bare_kind kind) ≡ is_constructed kind
constructed_bare (type.integer names) = refl
constructed_bare (type.bit_string names) = refl
constructed_bare (type.sequence cs) = refl
constructed_bare (type.set cs) = refl
constructed_bare (type.choice cs) = refl
constructed_bare (type.sequence_of t) = refl
constructed_bare (type.set_of t) = refl
constructed_bare _ = refl

mutual
  outermost_bare : (t : AbstractType) (v : AbstractValue) → outermost (bare t) v ≡ outermost t v
  outermost_bare (type_of (tag ∷ tags) kind cons) v = refl
  outermost_bare (type_of [] kind cons) v = inside_bare kind v

  inside_bare : (kind : AbstractKind) (v : AbstractValue) → outermost_inside (bare_kind kind) v ≡ outermost_inside kind v
  inside_bare (type.choice cs) (value.chosen i v) = outermost_alternative_bare cs i v
  inside_bare _ _ = refl

  outermost_alternative_bare : (cs : Components) (i : ℕ) (v : AbstractValue) → outermost_alternative (bare_components cs) i v ≡ outermost_alternative cs i v
  outermost_alternative_bare no_components i v = refl
  outermost_alternative_bare (component name t presence cs) zero v = outermost_bare t v
  outermost_alternative_bare (component name t presence cs) (suc i) v = outermost_alternative_bare cs i v

mutual
  der_bare : (t : AbstractType) (v : AbstractValue) → der (bare t) v ≡ der t v
  der_bare (type_of tags kind cons) v =
      ap (λ b. contents_octets (bare_kind kind) v >>= λ contents. tagged tags b contents) (constructed_bare kind)
      ∙ ap (λ octets. octets >>= λ contents. tagged tags (is_constructed kind) contents) (contents_bare kind v)

  contents_bare : (kind : AbstractKind) (v : AbstractValue) → contents_octets (bare_kind kind) v ≡ contents_octets kind v
  contents_bare (type.sequence cs) (value.fields fs) = ap (λ parts. parts >>= λ ps. Some (parts_joined ps)) (parts_bare cs fs)
  contents_bare (type.set cs) (value.fields fs) = ap (λ parts. parts >>= λ ps. Some (parts_joined (ascending ps))) (parts_bare cs fs)
  contents_bare (type.choice cs) (value.chosen i v) = alternative_bare cs i v
  contents_bare (type.sequence_of t) (value.items vs) = ap (λ encode. item_encodings encode vs >>= λ es. Some (joined es)) (fun_ext (λ v. der_bare t v))
  contents_bare (type.set_of t) (value.items vs) = ap (λ encode. item_encodings encode vs >>= λ es. Some (joined es)) (fun_ext (λ v. der_bare t v))
  contents_bare _ _ = refl

  alternative_bare : (cs : Components) (i : ℕ) (v : AbstractValue) → alternative_octets (bare_components cs) i v ≡ alternative_octets cs i v
  alternative_bare no_components i v = refl
  alternative_bare (component name t presence cs) zero v = der_bare t v
  alternative_bare (component name t presence cs) (suc i) v = alternative_bare cs i v

  parts_bare : (cs : Components) (fs : Fields) → parts_of (bare_components cs) fs ≡ parts_of cs fs
  parts_bare no_components fs = refl
  parts_bare (component name t presence cs) value.no_fields = refl
  parts_bare (component name t presence cs) (value.absent fs) = parts_bare cs fs
  parts_bare (component name t presence cs) (value.present v fs) =
      rw (outermost_bare t v, der_bare t v, parts_bare cs fs) refl

-- ---- values

-- of named bits it counts whether there are any
named_alike : (names : List NamedNumber) (os : List ℕ) (unused : ℕ) → ends_as_named (bare_names names) os unused ≡ ends_as_named names os unused
named_alike [] os unused = refl
named_alike (n ∷ ns) os unused = refl

mutual
  fits_bare : (t : AbstractType) (v : AbstractValue) → fits (bare t) v ≡ fits t v
  fits_bare (type_of tags kind cons) v = fits_kind_bare kind v

  fits_kind_bare : (kind : AbstractKind) (v : AbstractValue) → fits_kind (bare_kind kind) v ≡ fits_kind kind v
  fits_kind_bare (type.bit_string names) (value.bit_string os unused) = ap (λ b. fits_bits os unused && b) (named_alike names os unused)
  fits_kind_bare (type.sequence cs) (value.fields fs) = fields_bare cs fs
  fits_kind_bare (type.set cs) (value.fields fs) = fields_bare cs fs
  fits_kind_bare (type.choice cs) (value.chosen i v) = fits_alternative_bare cs i v
  fits_kind_bare (type.sequence_of t) (value.items vs) = ap (λ fit. fits_items fit vs) (fun_ext (λ v. fits_bare t v))
  fits_kind_bare (type.set_of t) (value.items vs) =
      ap (λ fit. fits_set fit (der (bare t)) vs) (fun_ext (λ v. fits_bare t v)) ∙ ap (λ encode. fits_set (fits t) encode vs) (fun_ext (λ v. der_bare t v))
  fits_kind_bare _ _ = refl

  fields_bare : (cs : Components) (fs : Fields) → fits_fields (bare_components cs) fs ≡ fits_fields cs fs
  fields_bare no_components fs = refl
  fields_bare (component name t presence cs) value.no_fields = refl
  fields_bare (component name t presence cs) (value.absent fs) = ap (λ b. may_be_absent presence && b) (fields_bare cs fs)
  fields_bare (component name t presence cs) (value.present v fs) = rw (fits_bare t v, fields_bare cs fs) refl

  fits_alternative_bare : (cs : Components) (i : ℕ) (v : AbstractValue) → fits_alternative (bare_components cs) i v ≡ fits_alternative cs i v
  fits_alternative_bare no_components i v = refl
  fits_alternative_bare (component name t presence cs) zero v = fits_bare t v
  fits_alternative_bare (component name t presence cs) (suc i) v = fits_alternative_bare cs i v

-- ---- types of the same base

pub fits_by_base : (t u : AbstractType) → HasSameBase t u → (v : AbstractValue) → fits t v ≡ fits u v
fits_by_base (type_of tags kind cons) (type_of others kind_too cons_too) base v =
    sym (fits_kind_bare kind v) ∙ ap (λ k. fits_kind k v) base ∙ fits_kind_bare kind_too v

pub der_by_base : (tags : List Tag) (kind other : AbstractKind) (cons cons_too : Constraints) → bare_kind kind ≡ bare_kind other
    → (v : AbstractValue) → der (type_of tags kind cons) v ≡ der (type_of tags other cons_too) v
der_by_base tags kind other cons cons_too base v =
    sym (der_bare (type_of tags kind no_constraints) v)
    ∙ ap (λ k. der (type_of tags k no_constraints) v) base
    ∙ der_bare (type_of tags other no_constraints) v
