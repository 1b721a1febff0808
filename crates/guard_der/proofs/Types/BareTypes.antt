-- Types of the same base have the same values, constraints aside, and with the same tags the same encodings.
use Rattle.std.proofs.Common.{◌≡◌, ℕ, zero, suc, Bool, true, ◌&&◌, Option, Some, List, [], ◌∷◌, refl, sym, ap, ◌∙◌}
use Rattle.guard_model.specs.AbstractType as type
use Rattle.guard_model.specs.AbstractType.{AbstractType, AbstractKind, AbstractPresence, Components, Constraints, NamedNumber, type_of, no_components, component, no_constraints}
use Rattle.guard_model.specs.AbstractValue as value
use Rattle.guard_model.specs.AbstractValue.{AbstractValue, Fields}
use Rattle.guard_model.specs.SameBase.{bare, bare_kind, bare_names, bare_components, bare_kind_of}
use Rattle.guard_model.specs.SameType.{same_base}
use Rattle.guard_model.specs.declared.tag.Tag.{Tag}
use Rattle.guard_model.proofs.SameTypes.{same_kind-Decides}
use Rattle.guard_der.specs.Element.{tagged}
use Rattle.guard_der.specs.Der.{der, is_constructed, is_left_out, Part, part_unless, parts_joined, ascending, joined, item_encodings, contents_octets, alternative_octets, parts_of, outermost, outermost_inside, outermost_alternative, ◌>>=◌}
use Rattle.guard_der.specs.Fits.{fits, fits_kind, fits_fields, fits_alternative, fits_bits, ends_as_named, fits_items, fits_set, may_be_absent}

same_form : (kind : AbstractKind) → is_constructed (bare_kind kind) ≡ is_constructed kind
same_form (type.integer ns) = refl
same_form (type.sequence cs) = refl
same_form (type.set cs) = refl
same_form (type.choice cs) = refl
same_form (type.sequence_of t) = refl
same_form (type.set_of t) = refl
same_form kind = refl

-- ---- outermost tags

mutual
  outermost_bare : (t : AbstractType) (v : AbstractValue) → outermost (bare t) v ≡ outermost t v
  outermost_bare (type_of [] kind cons) v = outermost_kind kind v
  outermost_bare (type_of (tag ∷ tags) kind cons) v = refl

  outermost_kind : (kind : AbstractKind) (v : AbstractValue) → outermost_inside (bare_kind kind) v ≡ outermost_inside kind v
  outermost_kind (type.choice cs) (value.chosen i v) = outermost_components cs i v
  outermost_kind kind v = refl

  outermost_components : (cs : Components) (i : ℕ) (v : AbstractValue) → outermost_alternative (bare_components cs) i v ≡ outermost_alternative cs i v
  outermost_components no_components i v = refl
  outermost_components (component name t presence rest) zero v = outermost_bare t v
  outermost_components (component name t presence rest) (suc i) v = outermost_components rest i v

-- ---- encodings

part_bare : (presence : AbstractPresence) (v : AbstractValue) (tag other : Tag) (os octets : Option (List ℕ)) (ps parts : Option (List Part)) → tag ≡ other → os ≡ octets → ps ≡ parts
    → part_unless (is_left_out presence v) tag os ps ≡ part_unless (is_left_out presence v) other octets parts
part_bare presence v tag other os octets ps parts e f g = rw (e, f, g) refl

mutual
  der_bare : (t : AbstractType) (v : AbstractValue) → der (bare t) v ≡ der t v
  der_bare (type_of tags kind cons) v =
      ap (λ (o : Option (List ℕ)). o >>= λ contents. tagged tags (is_constructed (bare_kind kind)) contents) (contents_bare kind v)
      ∙ ap (λ (b : Bool). contents_octets kind v >>= λ contents. tagged tags b contents) (same_form kind)

  contents_bare : (kind : AbstractKind) (v : AbstractValue) → contents_octets (bare_kind kind) v ≡ contents_octets kind v
  contents_bare (type.integer ns) (value.integer z) = refl
  contents_bare (type.sequence cs) (value.fields fs) = ap (λ (o : Option (List Part)). o >>= λ ps. Some (parts_joined ps)) (parts_bare cs fs)
  contents_bare (type.set cs) (value.fields fs) = ap (λ (o : Option (List Part)). o >>= λ ps. Some (parts_joined (ascending ps))) (parts_bare cs fs)
  contents_bare (type.choice cs) (value.chosen i v) = alternative_bare cs i v
  contents_bare (type.sequence_of t) (value.items vs) = ap (λ (g : AbstractValue → Option (List ℕ)). item_encodings g vs >>= λ es. Some (joined es)) (λ i v. der_bare t v i)
  contents_bare (type.set_of t) (value.items vs) = ap (λ (g : AbstractValue → Option (List ℕ)). item_encodings g vs >>= λ es. Some (joined es)) (λ i v. der_bare t v i)
  contents_bare kind v = refl

  alternative_bare : (cs : Components) (i : ℕ) (v : AbstractValue) → alternative_octets (bare_components cs) i v ≡ alternative_octets cs i v
  alternative_bare no_components i v = refl
  alternative_bare (component name t presence rest) zero v = der_bare t v
  alternative_bare (component name t presence rest) (suc i) v = alternative_bare rest i v

  parts_bare : (cs : Components) (fs : Fields) → parts_of (bare_components cs) fs ≡ parts_of cs fs
  parts_bare no_components value.no_fields = refl
  parts_bare (component name t presence rest) (value.absent fs) = parts_bare rest fs
  parts_bare (component name t presence rest) (value.present v fs) =
      part_bare presence v (outermost (bare t) v) (outermost t v) (der (bare t) v) (der t v) (parts_of (bare_components rest) fs) (parts_of rest fs) (outermost_bare t v) (der_bare t v) (parts_bare rest fs)
  parts_bare cs fs = refl

-- ---- values

ends_bare : (ns : List NamedNumber) (os : List ℕ) (unused : ℕ) → ends_as_named (bare_names ns) os unused ≡ ends_as_named ns os unused
ends_bare [] os unused = refl
ends_bare (n ∷ ns) os unused = refl

mutual
  fits_bare : (t : AbstractType) (v : AbstractValue) → fits (bare t) v ≡ fits t v
  fits_bare (type_of tags kind cons) v = kind_bare kind v

  pub kind_bare : (kind : AbstractKind) (v : AbstractValue) → fits_kind (bare_kind kind) v ≡ fits_kind kind v
  kind_bare (type.integer ns) (value.integer z) = refl
  kind_bare (type.bit_string ns) (value.bit_string os unused) = ap (λ (b : Bool). fits_bits os unused && b) (ends_bare ns os unused)
  kind_bare (type.sequence cs) (value.fields fs) = fields_bare cs fs
  kind_bare (type.set cs) (value.fields fs) = fields_bare cs fs
  kind_bare (type.choice cs) (value.chosen i v) = chosen_bare cs i v
  kind_bare (type.sequence_of t) (value.items vs) = ap (λ (f : AbstractValue → Bool). fits_items f vs) (λ i v. fits_bare t v i)
  kind_bare (type.set_of t) (value.items vs) =
      ap (λ (f : AbstractValue → Bool). fits_set f (der (bare t)) vs) (λ i v. fits_bare t v i)
      ∙ ap (λ (f : AbstractValue → Option (List ℕ)). fits_set (fits t) f vs) (λ i v. der_bare t v i)
  kind_bare kind v = refl

  fields_bare : (cs : Components) (fs : Fields) → fits_fields (bare_components cs) fs ≡ fits_fields cs fs
  fields_bare no_components value.no_fields = refl
  fields_bare (component name t presence rest) (value.present v fs) = rw (fits_bare t v, fields_bare rest fs) refl
  fields_bare (component name t presence rest) (value.absent fs) = ap (λ (b : Bool). may_be_absent presence && b) (fields_bare rest fs)
  fields_bare cs fs = refl

  chosen_bare : (cs : Components) (i : ℕ) (v : AbstractValue) → fits_alternative (bare_components cs) i v ≡ fits_alternative cs i v
  chosen_bare no_components i v = refl
  chosen_bare (component name t presence rest) zero v = fits_bare t v
  chosen_bare (component name t presence rest) (suc i) v = chosen_bare rest i v

-- ---- types of the same base

through : (t : AbstractType) (v : AbstractValue) → fits_kind (bare_kind_of t) v ≡ fits t v
through (type_of tags kind cons) v = kind_bare kind v

pub same_base_fits : (t u : AbstractType) (v : AbstractValue) → same_base t u ≡ true → fits t v ≡ fits u v
same_base_fits t u v e = sym (through t v) ∙ ap (λ (kind : AbstractKind). fits_kind kind v) ((same_kind-Decides (bare_kind_of t) (bare_kind_of u)).0 e) ∙ through u v

pub der_by_base : (tags : List Tag) (kind other : AbstractKind) (cons cons_too : Constraints) → bare_kind kind ≡ bare_kind other
    → (v : AbstractValue) → der (type_of tags kind cons) v ≡ der (type_of tags other cons_too) v
der_by_base tags kind other cons cons_too base v =
    sym (der_bare (type_of tags kind no_constraints) v)
    ∙ ap (λ k. der (type_of tags k no_constraints) v) base
    ∙ der_bare (type_of tags other no_constraints) v
