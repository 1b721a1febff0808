-- Reading an encoding from left to right: its value, or the first breach. Offsets count from the front of the message,
-- paths from the value that is read.
use Rattle.std.specs.Prelude.{ℕ, zero, suc, ◌+◌, Bool, true, false, not, ◌&&◌, List, [], ◌∷◌, length, take, drop, nat_lt, Option, Some, None, Result, Ok, Err, if◌then◌else◌}
use Rattle.guard_model.specs.Answer.{◌>>=◌}
use Rattle.guard_model.specs.declared.site.Step.{Step}
use Rattle.guard_model.specs.declared.site.Step.TheVariants.{Component, Element}
use Rattle.guard_model.specs.declared.tag.Tag.{Tag}
use Rattle.guard_model.specs.AbstractType as type
use Rattle.guard_model.specs.AbstractType.{AbstractType, AbstractKind, AbstractPresence, Components, type_of, no_components, component}
use Rattle.guard_model.specs.AbstractValue as value
use Rattle.guard_model.specs.AbstractValue.{AbstractValue, Fields, Items}
use Rattle.guard_model.specs.Slots.{all_absent}
use Rattle.guard_tagcheck.specs.FirstTags.{begins_with, one_begins_with}
use Rattle.guard_der.specs.declared.breach.Code.{Code}
use Rattle.guard_der.specs.declared.breach.Code.TheVariants as code
use Rattle.guard_der.specs.Head.{Head, head_of}
use Rattle.guard_der.specs.Der.{is_constructed, is_left_out, tag_before}
use Rattle.guard_der.specs.Fits.{descends}
use Rattle.guard_der.specs.Simple.{simple_fault, simple_value}
use Rattle.guard_der.specs.Breach.{AbstractBreach, below, one_with}
use Rattle.guard_model.specs.Tags.{same_tag}

abbrev pub fault : Code → ℕ → AbstractBreach
fault c at = record { code = c; at = at; path = [] }

-- a fault at this offset
abbrev pub located : {A : Type 0} → ℕ → Result A Code → Result A AbstractBreach
located at (Ok x) = Ok x
located at (Err c) = Err (fault c at)

abbrev pub inside : {A : Type 0} → Step → Result A AbstractBreach → Result A AbstractBreach
inside step (Ok x) = Ok x
inside step (Err b) = Err (below step b)

-- an element at this offset, its header read and its tag accepted
abbrev pub Reader : Type 0
Reader = ℕ → Head → List ℕ → Result AbstractValue AbstractBreach

-- contents octets of an element at the first offset, from the second one on
abbrev pub Body : Type 0
Body = ℕ → ℕ → List ℕ → Result AbstractValue AbstractBreach

-- an element with one of these tags is due
unfoldable pub due_at : (Tag → Bool) → ℕ → List ℕ → Result Head AbstractBreach
due_at wanted at octets =
    located at (head_of octets) >>= λ h. if wanted h.tag then Ok h else Err (fault code.UnexpectedTag at)

abbrev pub same_form : Bool → Bool → Bool
same_form true constructed = constructed
same_form false constructed = not constructed

-- an element in this form
unfoldable pub framed : Bool → Body → Reader
framed constructed body at h octets =
    if same_form h.constructed constructed
    then body at (at + h.size) (take h.contents (drop h.size octets))
    else Err (fault code.WrongForm at)

abbrev pub ended : ℕ → Head → List ℕ → AbstractValue → Result AbstractValue AbstractBreach
ended at h octets v =
    if nat_lt (h.size + h.contents) (length octets)
    then Err (fault code.TrailingOctets (at + (h.size + h.contents)))
    else Ok v

-- one element and nothing after it
unfoldable pub alone_at : (Tag → Bool) → Reader → ℕ → List ℕ → Result AbstractValue AbstractBreach
alone_at wanted read at octets = due_at wanted at octets >>= λ h. read at h octets >>= λ v. ended at h octets v

-- each tag but the last is a wrapper
unfoldable pub tags_at : List Tag → Bool → Body → Reader → Reader
tags_at [] constructed body untagged at h octets = untagged at h octets
tags_at (t ∷ []) constructed body untagged at h octets = framed constructed body at h octets
tags_at (t ∷ u ∷ ts) constructed body untagged at h octets =
    framed true (λ at start inner. alone_at (same_tag u) (tags_at (u ∷ ts) constructed body untagged) start inner)
    at h octets

-- the value, unless there is a fault
abbrev pub unless_fault : ℕ → Option Code → AbstractValue → Result AbstractValue AbstractBreach
unless_fault at None v = Ok v
unless_fault at (Some c) v = Err (fault c at)

unfoldable pub simple_at : AbstractKind → Body
simple_at kind at start octets = unless_fault at (simple_fault kind octets) (simple_value kind octets)

-- ---- components

-- a component that is sent, of which this is the place in the list
unfoldable pub sent_at : ℕ → AbstractPresence → Reader → Reader
sent_at i presence read at h octets =
    inside (Component i)
    (read at h octets >>= λ v. if is_left_out presence v then Err (fault code.DefaultPresent at) else Ok v)

-- a component that is not sent, at the end of contents and before an element of another one
abbrev pub not_sent : AbstractPresence → AbstractBreach → Result (Option AbstractValue) AbstractBreach
not_sent type.mandatory b = Err b
not_sent type.optional b = Ok None
not_sent type.pending b = Ok None
not_sent (type.default d) b = Ok (Some d)

abbrev pub missing_at : ℕ → ℕ → AbstractBreach
missing_at i at = record { code = code.MissingComponent; at = at; path = Component i ∷ [] }

-- component i where it may come next: its value, and how many octets it takes
unfoldable pub component_at : ℕ → AbstractPresence → (Tag → Bool) → Reader → ℕ → List ℕ
    → Result (Option AbstractValue × ℕ) AbstractBreach
component_at i presence wanted read at [] = not_sent presence (missing_at i at) >>= λ f. Ok (f, 0)
component_at i presence wanted read at (o ∷ os) =
    located at (head_of (o ∷ os)) >>= λ h.
    if wanted h.tag
    then (sent_at i presence read at h (o ∷ os) >>= λ v. Ok (Some v, h.size + h.contents))
    else (not_sent presence (fault code.UnexpectedTag at) >>= λ f. Ok (f, 0))

-- no element is due
unfoldable pub end_at : ℕ → List ℕ → Result Fields AbstractBreach
end_at at [] = Ok value.no_fields
end_at at (o ∷ os) = due_at (λ tag. false) at (o ∷ os) >>= λ h. Ok value.no_fields

abbrev pub field_before : Option AbstractValue → Fields → Fields
field_before None fs = value.absent fs
field_before (Some v) fs = value.present v fs

abbrev pub fields_read : Result Fields AbstractBreach → Result AbstractValue AbstractBreach
fields_read (Ok fs) = Ok (value.fields fs)
fields_read (Err b) = Err b

abbrev pub items_read : Result Items AbstractBreach → Result AbstractValue AbstractBreach
items_read (Ok vs) = Ok (value.items vs)
items_read (Err b) = Err b

-- the chosen alternative
unfoldable pub chosen_at : Components → (ℕ → Reader) → Reader
chosen_at cs read at h octets = elim (one_with 0 cs h.tag) [
  | None ↦ Err (fault code.UnexpectedTag at)
  | Some j ↦ inside (Component j) (read j at h octets) >>= λ v. Ok (value.chosen j v)
]

-- ---- components of a SET

-- component i was read
abbrev pub is_filled : ℕ → Fields → Bool
is_filled zero (value.present v fs) = true
is_filled (suc i) (value.present v fs) = is_filled i fs
is_filled (suc i) (value.absent fs) = is_filled i fs
is_filled _ _ = false

abbrev pub fill : ℕ → AbstractValue → Fields → Fields
fill i v value.no_fields = value.no_fields
fill zero v (value.present w fs) = value.present v fs
fill zero v (value.absent fs) = value.present v fs
fill (suc i) v (value.present w fs) = value.present w (fill i v fs)
fill (suc i) v (value.absent fs) = value.absent (fill i v fs)

abbrev pub presence_at : ℕ → Components → AbstractPresence
presence_at i no_components = type.mandatory
presence_at zero (component name t presence rest) = presence
presence_at (suc i) (component name t presence rest) = presence_at i rest

-- The tag comes after that of the element before, where there is one.
abbrev pub follows : Option Tag → Tag → Bool
follows None tag = true
follows (Some before) tag = tag_before before tag

-- The place of the component with this tag, which comes after those read and was not there among them (X.690 10.3).
unfoldable pub placed_at : Components → Fields → Option Tag → ℕ → Tag → Result ℕ AbstractBreach
placed_at cs fs before at tag = elim (one_with 0 cs tag) [
  | None ↦ Err (fault code.UnexpectedTag at)
  | Some j ↦
      if follows before tag
      then (if is_filled j fs then Err (fault code.UnexpectedTag at) else Ok j)
      else Err (below (Component j) (fault code.SetOrder at))
]

-- the element of a component: its place, its value, its header
unfoldable pub set_element_at : Components → (ℕ → Reader) → Fields → Option Tag → ℕ → List ℕ
    → Result (ℕ × AbstractValue × Head) AbstractBreach
set_element_at cs read fs before at octets =
    located at (head_of octets) >>= λ h. placed_at cs fs before at h.tag >>= λ j.
    sent_at j (presence_at j cs) (read j) at h octets >>= λ v. Ok (j, v, h)

-- what a component is at the end of the contents
abbrev pub settled : AbstractPresence → Option AbstractValue → AbstractBreach
    → Result (Option AbstractValue) AbstractBreach
settled presence None b = not_sent presence b
settled presence (Some v) b = Ok (Some v)

-- the components that were not sent, the first of which is component i
unfoldable pub completed : ℕ → Components → Fields → ℕ → Result Fields AbstractBreach
completed i (component name t presence rest) (value.present v fs) at =
    settled presence (Some v) (missing_at i at) >>= λ f.
    completed (suc i) rest fs at >>= λ gs. Ok (field_before f gs)
completed i (component name t presence rest) (value.absent fs) at =
    settled presence None (missing_at i at) >>= λ f.
    completed (suc i) rest fs at >>= λ gs. Ok (field_before f gs)
completed i _ _ at = Ok value.no_fields

-- what is left of a SET, at most so many elements
unfoldable pub set_at : ℕ → Components → (ℕ → Reader) → Fields → Option Tag → ℕ → List ℕ → Result Fields AbstractBreach
set_at tries cs read fs before at [] = completed 0 cs fs at
set_at zero cs read fs before at (o ∷ os) = Err (fault code.UnexpectedTag at)
set_at (suc tries) cs read fs before at (o ∷ os) =
    set_element_at cs read fs before at (o ∷ os) >>= λ x.
    set_at tries cs read (fill x.0 x.1 fs) (Some x.2.tag) (at + (x.2.size + x.2.contents))
    (drop (x.2.size + x.2.contents) (o ∷ os))

-- ---- elements of an OF type

-- an element after one with these octets: its value, and how many octets it takes
unfoldable pub item_alone : Bool → (Tag → Bool) → Reader → List ℕ → ℕ → List ℕ
    → Result (AbstractValue × ℕ) AbstractBreach
item_alone ordered wanted read before at octets =
    due_at wanted at octets >>= λ h. read at h octets >>= λ v.
    if ordered && descends before (take (h.size + h.contents) octets)
    then Err (fault code.SetOfOrder at)
    else Ok (v, h.size + h.contents)

-- element i after one with these octets: its value, and how many octets it takes; the path of a fault begins at the
-- value that has the element
unfoldable pub item_at : Bool → (Tag → Bool) → Reader → ℕ → List ℕ → ℕ → List ℕ
    → Result (AbstractValue × ℕ) AbstractBreach
item_at ordered wanted read i before at octets = inside (Element i) (item_alone ordered wanted read before at octets)

-- at most so many elements, from element i on
unfoldable pub items_at : ℕ → Bool → (Tag → Bool) → Reader → ℕ → List ℕ → ℕ → List ℕ → Result Items AbstractBreach
items_at tries ordered wanted read i before at [] = Ok value.no_items
items_at zero ordered wanted read i before at (o ∷ os) = Err (fault code.UnexpectedTag at)
items_at (suc tries) ordered wanted read i before at (o ∷ os) =
    item_at ordered wanted read i before at (o ∷ os) >>= λ x.
    items_at tries ordered wanted read (suc i) (take x.1 (o ∷ os)) (at + x.1) (drop x.1 (o ∷ os)) >>= λ vs.
    Ok (value.item x.0 vs)

-- ---- all kinds

unfoldable mutual
  -- an element with this header, its tag accepted
  pub element_at : AbstractType → ℕ → Head → List ℕ → Result AbstractValue AbstractBreach
  element_at (type_of tags kind cons) at h octets =
      tags_at tags (is_constructed kind) (contents_at kind) (untagged_at kind) at h octets

  pub untagged_at : AbstractKind → ℕ → Head → List ℕ → Result AbstractValue AbstractBreach
  untagged_at (type.choice cs) at h octets = chosen_at cs (part_at cs) at h octets
  untagged_at kind at h octets = Err (fault code.UnexpectedTag at)

  -- contents octets that begin at `start`, of an element that begins at `at`
  pub contents_at : AbstractKind → ℕ → ℕ → List ℕ → Result AbstractValue AbstractBreach
  contents_at (type.sequence cs) at start octets = fields_read (fields_at 0 cs start octets)
  contents_at (type.set cs) at start octets =
      fields_read (set_at (length octets) cs (part_at cs) (all_absent cs) None start octets)
  contents_at (type.choice cs) at start octets = alone_at (one_begins_with cs) (chosen_at cs (part_at cs)) start octets
  contents_at (type.sequence_of t) at start octets =
      items_read (items_at (length octets) false (begins_with t) (element_at t) 0 [] start octets)
  contents_at (type.set_of t) at start octets =
      items_read (items_at (length octets) true (begins_with t) (element_at t) 0 [] start octets)
  contents_at kind at start octets = simple_at kind at start octets

  -- these components, of which the first is component i
  pub fields_at : ℕ → Components → ℕ → List ℕ → Result Fields AbstractBreach
  fields_at i no_components at octets = end_at at octets
  fields_at i (component name t presence cs) at octets =
      component_at i presence (begins_with t) (element_at t) at octets >>= λ x.
      fields_at (suc i) cs (at + x.1) (drop x.1 octets) >>= λ fs. Ok (field_before x.0 fs)

  -- component i of these, its tag accepted
  pub part_at : Components → ℕ → ℕ → Head → List ℕ → Result AbstractValue AbstractBreach
  part_at no_components i at h octets = Err (fault code.UnexpectedTag at)
  part_at (component name t presence rest) zero at h octets = element_at t at h octets
  part_at (component name t presence rest) (suc i) at h octets = part_at rest i at h octets

-- a whole message
unfoldable pub message_of : AbstractType → List ℕ → Result AbstractValue AbstractBreach
message_of t octets = alone_at (begins_with t) (element_at t) 0 octets
