-- Why octets are no encoding of a value of a type: the first place that is reached and at fault.
--
-- A place is an offset in the message or in the contents of an element in it. It is reached where what comes before it,
-- and before each element that it lies in, encodes values of the parts that are due there. At most one reached place is
-- at fault: after it none is reached.
--
-- For example, of `SEQUENCE {a INTEGER, b BOOLEAN}` these octets encode no value:
--
--     30 06  02 01 05  02 01 01
--
-- The place before the second element is reached, since `02 01 05` encodes a value of component a: `SequenceReached`.
-- The tag there is that of an INTEGER, and only that of a BOOLEAN is due: `SequenceFault`. So the breach is
-- `UnexpectedTag`, its offset is 5, and its path is empty. With `01 01 05` in that place the element is due, but its
-- contents are those of no BOOLEAN, so the breach is `BooleanContents`, also at 5, and component b is its path.
-- `Faulty` below stands for such a judgement on one element, and `FaultyContents` for one on its contents: these octets
-- have this breach.
use Rattle.std.specs.Prelude.{◌≡◌, ◌≢◌, ℕ, zero, suc, ◌+◌, Bool, true, false, not, ◌&&◌, ◌||◌, List, [], ◌∷◌, ◌++◌, length, take, drop, Option, Some, None, Ok, Err, IsTrue, if◌then◌else◌, ◌⊎◌}
use Rattle.guard_model.specs.declared.site.Step.{Step}
use Rattle.guard_model.specs.declared.site.Step.TheVariants.{Component, Element}
use Rattle.guard_model.specs.declared.tag.Tag.{Tag}
use Rattle.guard_model.specs.AbstractType as type
use Rattle.guard_model.specs.AbstractType.{AbstractType, AbstractKind, Components, type_of, no_components, component}
use Rattle.guard_model.specs.AbstractValue as value
use Rattle.guard_model.specs.AbstractValue.{AbstractValue, Fields, Items}
use Rattle.guard_tagcheck.specs.FirstTags.{begins_with, one_begins_with}
use Rattle.guard_der.specs.declared.breach.Code.{Code}
use Rattle.guard_der.specs.declared.breach.Code.TheVariants as code
use Rattle.guard_der.specs.Head.{Head, head_of}
use Rattle.guard_der.specs.Element.{tagged}
use Rattle.guard_der.specs.Der.{Part, ◌>>=◌, der, contents_octets, parts_of, item_encodings, joined, is_constructed, is_left_out, tag_before}
use Rattle.guard_der.specs.Fits.{fits, fits_kind, fits_fields, every_fits, descends, ascend_from}
use Rattle.guard_der.specs.Simple.{simple_fault}
use Rattle.guard_model.specs.Tags.{same_tag}
use Rattle.guard_model.specs.Counts.{item_count}
use Rattle.guard_tagcheck.specs.Search.{is_mandatory}

-- A fault, and where it is. The offset and the path begin at the element or the contents that are spoken of.
pub record AbstractBreach : Type 0 where
  pub code : Code
  pub at : ℕ
  pub path : List Step

abbrev pub here : Code → AbstractBreach
here c = record { code = c; at = 0; path = [] }

-- the breach, its offset counted from so many octets before
abbrev pub after : ℕ → AbstractBreach → AbstractBreach
after n b = record { code = b.code; at = n + b.at; path = b.path }

-- the breach of a value inside, its path counted from the value round it
abbrev pub below : Step → AbstractBreach → AbstractBreach
below step b = record { code = b.code; at = b.at; path = step ∷ b.path }

-- What may be at fault in an element of some type, and in contents after so many octets of header.
abbrev pub Faulty : Type 1
Faulty = List ℕ → AbstractBreach → Type 0

abbrev pub FaultyContents : Type 1
FaultyContents = ℕ → List ℕ → AbstractBreach → Type 0

-- ---- one element

-- What is at the front is at fault where any element is due whose tags are those that `wanted` accepts: its header is
-- at fault, or its tag.
abbrev pub NotDue : (Tag → Bool) → List ℕ → Code → Type 0
NotDue wanted octets c =
    (head_of octets ≡ Err c)
    ⊎ ((h : Head) × (head_of octets ≡ Ok h) × (wanted h.tag ≡ false) × (c ≡ code.UnexpectedTag))

-- An element with such a tag begins with these octets, and is at fault in its form or its contents.
abbrev pub FaultInElement : (Tag → Bool) → Bool → FaultyContents → Faulty
FaultInElement wanted constructed Contents octets b =
    (h : Head) × (head_of octets ≡ Ok h) × IsTrue (wanted h.tag)
    × (((h.constructed ≢ constructed) × (b ≡ here code.WrongForm))
    ⊎ ((h.constructed ≡ constructed) × Contents h.size (take h.contents (drop h.size octets)) b))

-- One element is due and nothing else, in a message and in a wrapper.
abbrev pub FaultAlone : (Tag → Bool) → (List ℕ → Type 0) → Faulty → Faulty
FaultAlone wanted Encodes Inside octets b =
    ((c : Code) × NotDue wanted octets c × (b ≡ here c))
    ⊎ Inside octets b
    ⊎ ((front : List ℕ) × (rest : List ℕ) × Encodes front × (octets ≡ front ++ rest) × (rest ≢ [])
    × (b ≡ after (length front) (here code.TrailingOctets)))

abbrev pub FaultInWrapper : (Tag → Bool) → (List ℕ → Type 0) → Faulty → FaultyContents
FaultInWrapper wanted Encodes Inside size octets b =
    (c : AbstractBreach) × FaultAlone wanted Encodes Inside octets c × (b ≡ after size c)

-- the octets are the encoding of a value
abbrev pub Encodes : (AbstractValue → Bool) → (AbstractValue → Option (List ℕ)) → List ℕ → Type 0
Encodes fit encode octets = (v : AbstractValue) × IsTrue (fit v) × (encode v ≡ Some octets)

-- An element of a type with these tags, each but the last a wrapper round the next.
abbrev pub FaultInTags : (List Tag → List ℕ → Type 0) → Bool → FaultyContents → Faulty → List Tag → Faulty
FaultInTags EncodesIn constructed Contents Untagged [] octets b = Untagged octets b
FaultInTags EncodesIn constructed Contents Untagged (t ∷ []) octets b =
    FaultInElement (same_tag t) constructed Contents octets b
FaultInTags EncodesIn constructed Contents Untagged (t ∷ u ∷ ts) octets b =
    FaultInElement (same_tag t) true
    (FaultInWrapper (same_tag u) (EncodesIn (u ∷ ts)) (FaultInTags EncodesIn constructed Contents Untagged (u ∷ ts)))
    octets b

-- the encodings of values of a kind with these tags
abbrev pub EncodesIn : AbstractKind → List Tag → List ℕ → Type 0
EncodesIn kind tags octets =
    Encodes (fits_kind kind) (λ v. contents_octets kind v >>= λ contents. tagged tags (is_constructed kind) contents)
    octets

-- ---- components

abbrev pub is_found : Option ℕ → Bool
is_found None = false
is_found (Some i) = true

-- the first of these components to which an element with this tag belongs; the first of all is component i
abbrev pub one_with : ℕ → Components → Tag → Option ℕ
one_with i no_components tag = None
one_with i (component name t presence rest) tag = if begins_with t tag then Some i else one_with (suc i) rest tag

-- the first of these components of a SEQUENCE to which an element with this tag belongs, if all before it can be
-- absent; the first of all is component i
abbrev pub next_with : ℕ → Components → Tag → Option ℕ
next_with i no_components tag = None
next_with i (component name t presence rest) tag =
    if begins_with t tag then Some i else if is_mandatory presence then None else next_with (suc i) rest tag

-- the first component that can't be absent
abbrev pub next_mandatory : ℕ → Components → Option ℕ
next_mandatory i no_components = None
next_mandatory i (component name t presence rest) =
    if is_mandatory presence then Some i else next_mandatory (suc i) rest

-- the first i components
abbrev pub first_components : ℕ → Components → Components
first_components zero cs = no_components
first_components (suc i) no_components = no_components
first_components (suc i) (component name t presence cs) = component name t presence (first_components i cs)

-- the components after the first i
abbrev pub other_components : ℕ → Components → Components
other_components zero cs = cs
other_components (suc i) no_components = no_components
other_components (suc i) (component name t presence cs) = other_components i cs

-- The last of these components is sent, or there is none.
abbrev pub last_is_sent : Components → Fields → Bool
last_is_sent (component name t presence no_components) (value.present v fs) = not (is_left_out presence v)
last_is_sent (component name t presence no_components) fs = false
last_is_sent (component name t presence cs) (value.present v fs) = last_is_sent cs fs
last_is_sent (component name t presence cs) (value.absent fs) = last_is_sent cs fs
last_is_sent _ _ = true

-- The octets begin with an encoding of component i that equals its default.
abbrev pub SendsDefault : Components → ℕ → List ℕ → Type 0
SendsDefault no_components i octets = ⊥
SendsDefault (component name t presence rest) zero octets =
    (v : AbstractValue) × (front : List ℕ) × (others : List ℕ)
    × IsTrue (fits t v) × (der t v ≡ Some front) × IsTrue (is_left_out presence v) × (octets ≡ front ++ others)
SendsDefault (component name t presence rest) (suc i) octets = SendsDefault rest i octets

-- The element of component i is at fault, or it is its default.
abbrev pub FaultInSent : Components → (ℕ → Faulty) → ℕ → Faulty
FaultInSent cs Part i octets c = Part i octets c ⊎ (SendsDefault cs i octets × (c ≡ here code.DefaultPresent))

-- The octets are what is sent of the first i components, the last of them too: the place after them is reached.
abbrev pub SequenceReached : ℕ → Components → List ℕ → Type 0
SequenceReached i cs octets =
    (fs : Fields) × IsTrue (fits_fields (first_components i cs) fs)
    × (contents_octets (type.sequence (first_components i cs)) (value.fields fs) ≡ Some octets)
    × IsTrue (last_is_sent (first_components i cs) fs)

-- There is a fault at the place after the first i components; these are the components that are left.
abbrev pub SequenceFault : ℕ → Components → (ℕ → Faulty) → Faulty
SequenceFault i left Sent octets b =
    -- the contents end before a mandatory component
    ((j : ℕ) × (octets ≡ []) × (next_mandatory i left ≡ Some j)
    × (b ≡ below (Component j) (here code.MissingComponent)))
    -- an element comes there that can't be next
    ⊎ ((c : Code) × (octets ≢ []) × NotDue (λ tag. is_found (next_with i left tag)) octets c × (b ≡ here c))
    -- the element of a component is at fault
    ⊎ ((h : Head) × (j : ℕ) × (c : AbstractBreach)
    × (head_of octets ≡ Ok h) × (next_with i left h.tag ≡ Some j) × Sent j octets c × (b ≡ below (Component j) c))

-- a fitting value or none at each component
abbrev pub fits_partly : Components → Fields → Bool
fits_partly no_components value.no_fields = true
fits_partly (component name t presence rest) (value.present v fs) = fits t v && fits_partly rest fs
fits_partly (component name t presence rest) (value.absent fs) = fits_partly rest fs
fits_partly _ _ = false

-- component i is sent
abbrev pub is_sent : ℕ → Components → Fields → Bool
is_sent zero (component name t presence rest) (value.present v fs) = not (is_left_out presence v)
is_sent (suc i) (component name t presence rest) (value.present v fs) = is_sent i rest fs
is_sent (suc i) (component name t presence rest) (value.absent fs) = is_sent i rest fs
is_sent _ _ _ = false

-- the first mandatory component without a value
abbrev pub missing : ℕ → Components → Fields → Option ℕ
missing i (component name t presence rest) (value.absent fs) =
    if is_mandatory presence then Some i else missing (suc i) rest fs
missing i (component name t presence rest) (value.present v fs) = missing (suc i) rest fs
missing i _ _ = None

-- the tag comes after those of all these parts
abbrev pub is_after : Tag → List Part → Bool
is_after tag [] = true
is_after tag (p ∷ ps) = tag_before p.tag tag && is_after tag ps

-- The octets are what is sent of some components of a SET: the place after them is reached.
abbrev pub SetReached : Components → Fields → List Part → List ℕ → Type 0
SetReached cs fs ps octets =
    IsTrue (fits_partly cs fs) × (parts_of cs fs ≡ Some ps)
    × (contents_octets (type.set cs) (value.fields fs) ≡ Some octets)

-- There is a fault at the place after these parts.
abbrev pub SetFault : Components → (ℕ → Faulty) → Fields → List Part → Faulty
SetFault cs Sent fs ps octets b =
    -- the contents end without a mandatory component
    ((j : ℕ) × (octets ≡ []) × (missing 0 cs fs ≡ Some j) × (b ≡ below (Component j) (here code.MissingComponent)))
    -- an element comes there that is of no component
    ⊎ ((c : Code) × (octets ≢ []) × NotDue (λ tag. is_found (one_with 0 cs tag)) octets c × (b ≡ here c))
    ⊎ ((h : Head) × (j : ℕ) × (head_of octets ≡ Ok h) × (one_with 0 cs h.tag ≡ Some j)
    -- the tag of an element doesn't ascend
    × (((is_after h.tag ps ≡ false) × (b ≡ below (Component j) (here code.SetOrder)))
    -- the component of an element was there before
    ⊎ ((is_after h.tag ps ≡ true) × (is_sent j cs fs ≡ true) × (b ≡ here code.UnexpectedTag))
    -- the element of a component is at fault
    ⊎ ((c : AbstractBreach) × (is_after h.tag ps ≡ true) × (is_sent j cs fs ≡ false)
    × Sent j octets c × (b ≡ below (Component j) c))))

-- The element of the chosen alternative is at fault.
abbrev pub FaultInChosen : Components → (ℕ → Faulty) → Faulty
FaultInChosen cs Part octets b =
    (h : Head) × (j : ℕ) × (c : AbstractBreach)
    × (head_of octets ≡ Ok h) × (one_with 0 cs h.tag ≡ Some j) × Part j octets c × (b ≡ below (Component j) c)

-- ---- elements of an OF type

abbrev pub last_of : List (List ℕ) → List ℕ
last_of [] = []
last_of (os ∷ []) = os
last_of (os ∷ es) = last_of es

-- The encodings are those of elements of the type, ascending where they have to be: the place after them is reached.
abbrev pub ItemsReached : AbstractType → Bool → Items → List (List ℕ) → Type 0
ItemsReached t ordered vs es =
    IsTrue (every_fits (fits t) vs) × (item_encodings (der t) vs ≡ Some es) × IsTrue (not ordered || ascend_from [] es)

-- There is a fault at the place after i elements, of which this is the last encoding.
abbrev pub ItemFault : AbstractType → Bool → Faulty → ℕ → List ℕ → Faulty
ItemFault t ordered Inside i before octets b =
    ((c : Code) × (octets ≢ []) × NotDue (begins_with t) octets c × (b ≡ below (Element i) (here c)))
    ⊎ ((c : AbstractBreach) × Inside octets c × (b ≡ below (Element i) c))
    -- an element that descends from the one before it
    ⊎ ((front : List ℕ) × (others : List ℕ) × (ordered ≡ true)
    × Encodes (fits t) (der t) front × (octets ≡ front ++ others)
    × IsTrue (descends before front) × (b ≡ below (Element i) (here code.SetOfOrder)))

-- ---- all kinds

-- Contents of a simple kind are at fault.
abbrev pub FaultInSimple : AbstractKind → FaultyContents
FaultInSimple kind size octets b = (c : Code) × (simple_fault kind octets ≡ Some c) × (b ≡ here c)

abbrev mutual
  -- An element of the type is due, begins with these octets, and is at fault in its form or its contents.
  pub FaultIn : AbstractType → List ℕ → AbstractBreach → Type 0
  FaultIn (type_of tags kind cons) octets b =
      FaultInTags (EncodesIn kind) (is_constructed kind) (FaultInContents kind) (FaultUntagged kind) tags octets b

  -- Contents octets of the kind are at fault; so many octets of header come before them.
  pub FaultInContents : AbstractKind → ℕ → List ℕ → AbstractBreach → Type 0
  FaultInContents (type.sequence cs) size octets b =
      (i : ℕ) × (front : List ℕ) × (rest : List ℕ) × (c : AbstractBreach)
      × (octets ≡ front ++ rest) × SequenceReached i cs front
      × SequenceFault i (other_components i cs) (FaultInSent cs (FaultInPart cs)) rest c
      × (b ≡ after (size + length front) c)
  FaultInContents (type.set cs) size octets b =
      (fs : Fields) × (ps : List Part) × (front : List ℕ) × (rest : List ℕ) × (c : AbstractBreach)
      × (octets ≡ front ++ rest) × SetReached cs fs ps front
      × SetFault cs (FaultInSent cs (FaultInPart cs)) fs ps rest c
      × (b ≡ after (size + length front) c)
  FaultInContents (type.choice cs) size octets b =
      FaultInWrapper (one_begins_with cs) (Encodes (fits_kind (type.choice cs)) (contents_octets (type.choice cs)))
      (FaultInChosen cs (FaultInPart cs)) size octets b
  FaultInContents (type.sequence_of t) size octets b =
      (vs : Items) × (es : List (List ℕ)) × (rest : List ℕ) × (c : AbstractBreach)
      × (octets ≡ joined es ++ rest) × ItemsReached t false vs es
      × ItemFault t false (FaultIn t) (item_count vs) (last_of es) rest c
      × (b ≡ after (size + length (joined es)) c)
  FaultInContents (type.set_of t) size octets b =
      (vs : Items) × (es : List (List ℕ)) × (rest : List ℕ) × (c : AbstractBreach)
      × (octets ≡ joined es ++ rest) × ItemsReached t true vs es
      × ItemFault t true (FaultIn t) (item_count vs) (last_of es) rest c
      × (b ≡ after (size + length (joined es)) c)
  FaultInContents type.boolean size octets b = FaultInSimple type.boolean size octets b
  FaultInContents (type.integer ns) size octets b = FaultInSimple (type.integer ns) size octets b
  FaultInContents (type.bit_string names) size octets b = FaultInSimple (type.bit_string names) size octets b
  FaultInContents type.octet_string size octets b = FaultInSimple type.octet_string size octets b
  FaultInContents type.null size octets b = FaultInSimple type.null size octets b
  FaultInContents type.object_identifier size octets b = FaultInSimple type.object_identifier size octets b
  FaultInContents (type.enumerated ns) size octets b = FaultInSimple (type.enumerated ns) size octets b
  FaultInContents (type.characters k) size octets b = FaultInSimple (type.characters k) size octets b

  -- An element of an untagged CHOICE is that of the chosen alternative.
  pub FaultUntagged : AbstractKind → List ℕ → AbstractBreach → Type 0
  FaultUntagged (type.choice cs) octets b = FaultInChosen cs (FaultInPart cs) octets b
  FaultUntagged kind octets b = ⊥

  -- The element of component i is at fault in its form or its contents.
  pub FaultInPart : Components → ℕ → List ℕ → AbstractBreach → Type 0
  FaultInPart no_components i octets b = ⊥
  FaultInPart (component name t presence rest) zero octets b = FaultIn t octets b
  FaultInPart (component name t presence rest) (suc i) octets b = FaultInPart rest i octets b

-- The octets are no encoding of a value of the type, and this is their breach.
abbrev pub IsBreach : AbstractType → List ℕ → AbstractBreach → Type 0
IsBreach t octets b = FaultAlone (begins_with t) (Encodes (fits t) (der t)) (FaultIn t) octets b
