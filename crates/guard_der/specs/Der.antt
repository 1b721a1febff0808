-- The encoding of a value of a type (X.690 clauses 8, 10 and 11), or none where a length needs more than four octets.
use Rattle.std.specs.Prelude.{ℕ, zero, suc, Bool, true, false, List, [], ◌∷◌, ◌++◌, Option, Some, None, if◌then◌else◌}
use Rattle.std.specs.Ordering.{is_lt}
use Rattle.guard_model.specs.declared.tag.Class.TheVariants.{Universal}
use Rattle.guard_model.specs.declared.tag.Tag.{Tag}
use Rattle.guard_model.specs.Tags.{tag_order}
use Rattle.guard_model.specs.Same.{same}
use Rattle.guard_model.specs.AbstractType as type
use Rattle.guard_model.specs.AbstractType.{AbstractType, AbstractKind, AbstractPresence, Components, type_of, no_components, component}
use Rattle.guard_model.specs.AbstractValue as value
use Rattle.guard_model.specs.AbstractValue.{AbstractValue, Fields, Items}
use Rattle.guard_der.specs.Octets.{signed_octets}
use Rattle.guard_der.specs.Element.{tagged}
use Rattle.guard_der.specs.Contents.{boolean_octet, arcs_octets, character_octets}

infixl 10 ◌>>=◌
abbrev pub ◌>>=◌ : {A B : Type 0} → Option A → (A → Option B) → Option B
None >>= f = None
(Some x) >>= f = f x

-- A SEQUENCE, a SET and the OF types are constructed, the simple kinds primitive (X.690 8.2.1, 8.9.1, 8.10.1, 8.11.1,
-- 8.12.1; for strings 10.2). Each tag of a CHOICE is a wrapper, and a wrapper is constructed (8.14.2).
abbrev pub is_constructed : AbstractKind → Bool
is_constructed (type.sequence cs) = true
is_constructed (type.set cs) = true
is_constructed (type.choice cs) = true
is_constructed (type.sequence_of t) = true
is_constructed (type.set_of t) = true
is_constructed type.boolean = false
is_constructed (type.integer ns) = false
is_constructed (type.bit_string names) = false
is_constructed type.octet_string = false
is_constructed type.null = false
is_constructed type.object_identifier = false
is_constructed (type.enumerated ns) = false
is_constructed (type.characters k) = false

abbrev pub joined : List (List ℕ) → List ℕ
joined [] = []
joined (os ∷ rest) = os ++ joined rest

-- ---- parts of a SEQUENCE or SET

-- the encoding of a component that is sent, and its tag
pub record Part : Type 0 where
  pub tag : Tag
  pub octets : List ℕ

abbrev pub parts_joined : List Part → List ℕ
parts_joined [] = []
parts_joined (p ∷ ps) = p.octets ++ parts_joined ps

-- X.680 8.6
abbrev pub tag_before : Tag → Tag → Bool
tag_before a b = is_lt (tag_order a b)

abbrev pub insert_part : Part → List Part → List Part
insert_part p [] = p ∷ []
insert_part p (q ∷ qs) = if tag_before q.tag p.tag then q ∷ insert_part p qs else p ∷ q ∷ qs

-- in ascending order of tags (X.690 10.3)
abbrev pub ascending : List Part → List Part
ascending [] = []
ascending (p ∷ ps) = insert_part p (ascending ps)

-- a component whose value is its default is not sent (X.690 11.5)
abbrev pub is_left_out : AbstractPresence → AbstractValue → Bool
is_left_out (type.default d) v = same d v
is_left_out _ v = false

abbrev pub part_unless : Bool → Tag → Option (List ℕ) → Option (List Part) → Option (List Part)
part_unless true tag octets parts = parts
part_unless false tag octets parts = octets >>= λ os. parts >>= λ ps. Some (record { tag = tag; octets = os } ∷ ps)

-- ---- values of a type

-- The encodings of the elements, in order.
abbrev pub item_encodings : (AbstractValue → Option (List ℕ)) → Items → Option (List (List ℕ))
item_encodings encode value.no_items = Some []
item_encodings encode (value.item v vs) =
    encode v >>= λ first. item_encodings encode vs >>= λ others. Some (first ∷ others)

abbrev mutual
  -- The outermost tag of the value's encoding; of an untagged CHOICE that of the chosen alternative. Other kinds have
  -- a tag.
  pub outermost : AbstractType → AbstractValue → Tag
  outermost (type_of (t ∷ ts) kind cons) v = t
  outermost (type_of [] kind cons) v = outermost_inside kind v

  pub outermost_inside : AbstractKind → AbstractValue → Tag
  outermost_inside (type.choice cs) (value.chosen i v) = outermost_alternative cs i v
  outermost_inside _ v = record { class = Universal; number = 0 }

  pub outermost_alternative : Components → ℕ → AbstractValue → Tag
  outermost_alternative no_components i v = record { class = Universal; number = 0 }
  outermost_alternative (component name t presence rest) zero v = outermost t v
  outermost_alternative (component name t presence rest) (suc i) v = outermost_alternative rest i v

abbrev mutual
  pub der : AbstractType → AbstractValue → Option (List ℕ)
  der (type_of tags kind cons) v = contents_octets kind v >>= λ contents. tagged tags (is_constructed kind) contents

  pub contents_octets : AbstractKind → AbstractValue → Option (List ℕ)
  contents_octets type.boolean (value.boolean b) = Some (boolean_octet b ∷ [])
  contents_octets (type.integer ns) (value.integer z) = Some (signed_octets z)
  contents_octets (type.bit_string names) (value.bit_string os unused) = Some (unused ∷ os)
  contents_octets type.octet_string (value.octet_string os) = Some os
  contents_octets type.null value.null = Some []
  contents_octets type.object_identifier (value.object_identifier arcs) = Some (arcs_octets arcs)
  contents_octets (type.enumerated ns) (value.enumerated z) = Some (signed_octets z)
  contents_octets (type.characters k) (value.characters cs) = Some (character_octets k cs)
  -- in written order (X.690 8.9.2)
  contents_octets (type.sequence cs) (value.fields fs) = parts_of cs fs >>= λ ps. Some (parts_joined ps)
  contents_octets (type.set cs) (value.fields fs) = parts_of cs fs >>= λ ps. Some (parts_joined (ascending ps))
  -- the chosen alternative's encoding (X.690 8.13)
  contents_octets (type.choice cs) (value.chosen i v) = alternative_octets cs i v
  -- in the order of the value (X.690 8.10.2, 8.12.2)
  contents_octets (type.sequence_of t) (value.items vs) = item_encodings (der t) vs >>= λ es. Some (joined es)
  contents_octets (type.set_of t) (value.items vs) = item_encodings (der t) vs >>= λ es. Some (joined es)
  contents_octets _ v = None

  pub alternative_octets : Components → ℕ → AbstractValue → Option (List ℕ)
  alternative_octets no_components i v = None
  alternative_octets (component name t presence rest) zero v = der t v
  alternative_octets (component name t presence rest) (suc i) v = alternative_octets rest i v

  -- what is sent of the components, in written order
  pub parts_of : Components → Fields → Option (List Part)
  parts_of no_components value.no_fields = Some []
  parts_of (component name t presence rest) (value.absent fs) = parts_of rest fs
  parts_of (component name t presence rest) (value.present v fs) =
      part_unless (is_left_out presence v) (outermost t v) (der t v) (parts_of rest fs)
  parts_of _ _ = None
