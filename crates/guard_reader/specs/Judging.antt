-- One pass over octets by a plan: what has failed before and there, or nothing where the octets are no encoding.
use Rattle.std.specs.Prelude.{ℕ, zero, suc, Bool, List, [], ◌∷◌, length, nat_eq, Option, Some, None, if◌then◌else◌}
use Rattle.std.specs.List.{list_any}
use Rattle.guard_model.specs.declared.tag.Tag.{Tag}
use Rattle.guard_der.specs.declared.breach.Code.{Code}
use Rattle.guard_der.specs.Fits.{descends}
use Rattle.guard_der.specs.Head.{head_of}
use Rattle.guard_der.specs.Reading.{follows}
use Rattle.guard_der.specs.Simple.{simple_fault, simple_value}
use Rattle.guard_tables.specs.declared.slots.Slots.{Slots}
use Rattle.guard_tables.specs.Slots.{none, added}
use Rattle.guard_tables.specs.Formulas.{Implication, implied}
use Rattle.guard_tables.specs.Marking.{Facts, facts, conditions_marked}
use Rattle.guard_tables.specs.NodeViews.{identifier_of, other_of}
use Rattle.guard_tables.specs.Plan.{AbstractCondition, Side, Plan, Body, Parts, plan, simple, series, set, choice, list, set_of, asked, formula, no_parts, part}
use Rattle.guard_tables.specs.TableNodes.{is_default}
use Rattle.guard_reader.specs.Fronts.{Front, here, elsewhere, broken, alone, element_in, front_of, front, innermost}
use Rattle.guard_reader.specs.Octets.{◌>>=◌, ok}

-- a pass over octets, after so much has failed
abbrev pub Pass : Type 0
Pass = List ℕ → Slots → Option Slots

-- what is at the front of octets
abbrev pub Sight : Type 0
Sight = List ℕ → Front

abbrev pub unless_fault : Option Code → Slots → Option Slots
unless_fault None m = Some m
unless_fault (Some c) m = None

-- what fails outside, once the inner set is known
abbrev pub outside : List Implication → Slots → Option Slots → Option Slots
outside implications m inner = inner >>= λ k. Some (implied implications k m)

-- ---- components of a SEQUENCE

abbrev pub absent_part : Option Slots → Slots → Option Slots
absent_part None m = None
absent_part (Some slots) m = Some (added m slots)

-- A default isn't sent (X.690 11.5).
unfoldable pub watched : Side → Pass
watched side os m = if is_default side.default os then None else Some (added m side.present)

-- the octets inside the outermost tag of a component that is there
unfoldable pub present_part : Side → Pass → Pass
present_part side pass os m = watched side os m >>= λ k. pass os k

abbrev pub with_rest : List ℕ → Option Slots → Option (Slots × List ℕ)
with_rest rest m = m >>= λ m. Some (m, rest)

-- A component where it may come next: what has failed, and what follows it. An element of its tag in the other form
-- isn't it, and no other component.
unfoldable pub part_at : Side → Front → Pass → List ℕ → Slots → Option (Slots × List ℕ)
part_at side (here inside rest) pass os m = with_rest rest (present_part side pass inside m)
part_at side elsewhere pass os m = with_rest os (absent_part side.absent m)
part_at side broken pass os m = None

-- ---- components of a SET

-- the component at this place was read
abbrev pub is_read : List ℕ → ℕ → Bool
is_read places i = list_any (λ place. nat_eq place i) places

-- of an element: the place of its component, what has failed, and what follows it
abbrev pub Member : Type 0
Member = Option (ℕ × Slots × List ℕ)

-- Where it is the component at place i, which wasn't read. What is there otherwise comes last.
unfoldable pub member_at : Side → Front → Pass → ℕ → List ℕ → Slots → Member → Member
member_at side (here inside rest) pass i places m later =
    if is_read places i then None else (present_part side pass inside m >>= λ k. Some (i, k, rest))
member_at side elsewhere pass i places m later = later
member_at side broken pass i places m later = None

-- the tag of the element at the front
abbrev pub tag_at : List ℕ → Option Tag
tag_at os = ok (head_of os) >>= λ h. Some h.tag

-- a tag that comes after the one before (X.690 10.3)
abbrev pub tag_after : Option Tag → Option Tag → Option Tag
tag_after last None = None
tag_after last (Some tag) = if follows last tag then Some tag else None

-- At most so many elements in ascending order of tags (X.690 8.11, 10.3), and what is absent after them.
unfoldable pub members_at :
    ℕ → (List ℕ → List ℕ → Slots → Member) → (List ℕ → Slots → Option Slots) → List ℕ → Option Tag → Pass
members_at tries member absent places last [] m = absent places m
members_at zero member absent places last (o ∷ os) m = None
members_at (suc tries) member absent places last (o ∷ os) m =
    tag_after last (tag_at (o ∷ os)) >>= λ tag. member places (o ∷ os) m >>= λ x.
    members_at tries member absent (x.0 ∷ places) (Some tag) x.2 x.1

-- the components that weren't read, the first of which is at place i
unfoldable pub absences_at : ℕ → Parts → List ℕ → Slots → Option Slots
absences_at i no_parts places m = Some m
absences_at i (part side p ps) places m =
    (if is_read places i then Some m else absent_part side.absent m) >>= λ k. absences_at (suc i) ps places k

-- ---- the chosen alternative of a CHOICE

-- Where octets are an element of this one and nothing after it. What is there otherwise comes last.
unfoldable pub chosen_at : Side → Front → Pass → Slots → Option Slots → Option Slots
chosen_at side (here inside []) pass m later = pass inside (added m side.present)
chosen_at side (here inside (o ∷ rest)) pass m later = None
chosen_at side elsewhere pass m later = later
chosen_at side broken pass m later = None

-- ---- elements of a SEQUENCE OF

-- at most so many elements
unfoldable pub elements_at : ℕ → Sight → Pass → Pass
elements_at tries sight pass [] m = Some m
elements_at zero sight pass (o ∷ os) m = None
elements_at (suc tries) sight pass (o ∷ os) m =
    element_in (sight (o ∷ os)) >>= λ x. pass x.0 m >>= λ k. elements_at tries sight pass x.1 k

abbrev pub elements : Sight → Pass → Pass
elements sight pass os m = elements_at (length os) sight pass os m

-- ---- elements of a SET OF

-- At most so many elements, of which none descends to the one after it (X.690 11.6). These octets are those of the
-- element before.
unfoldable pub ordered_at : ℕ → Sight → Pass → List ℕ → Pass
ordered_at tries sight pass before [] m = Some m
ordered_at zero sight pass before (o ∷ os) m = None
ordered_at (suc tries) sight pass before (o ∷ os) m =
    element_in (sight (o ∷ os)) >>= λ x. pass x.0 m >>= λ k.
    if descends before (front_of (o ∷ os) x.1) then None
    else ordered_at tries sight pass (front_of (o ∷ os) x.1) x.1 k

abbrev pub ordered : Sight → Pass → List ℕ → Pass
ordered sight pass before os m = ordered_at (length os) sight pass before os m

-- ---- elements that are counted

-- the element that is cut off, and so many of what is left
abbrev pub one_and : (List ℕ → ℕ) → Option (List ℕ × List ℕ) → ℕ
one_and count None = 0
one_and count (Some x) = suc (count x.1)

-- how many elements are at the front; at most so many are looked for
unfoldable pub counted : ℕ → Sight → List ℕ → ℕ
counted tries sight [] = 0
counted zero sight (o ∷ os) = 0
counted (suc tries) sight (o ∷ os) = one_and (λ rest. counted tries sight rest) (element_in (sight (o ∷ os)))

abbrev pub element_count : Sight → List ℕ → ℕ
element_count sight os = counted (length os) sight os

-- the size of a list (X.680 51.5); other kinds with parts have none
abbrev pub size_in : Body → List ℕ → Option ℕ
size_in (simple kind cs) os = None
size_in (series ps) os = None
size_in (set ps) os = None
size_in (choice ps) os = None
size_in (list p) os = Some (element_count (λ os. front p os) os)
size_in (set_of p) os = Some (element_count (λ os. front p os) os)
size_in (asked cs body) os = size_in body os
size_in (formula implications body) os = size_in body os

-- what is looked at of a value that has parts
abbrev pub whole_facts : Option ℕ → List ℕ → Facts
whole_facts size os = record { number = None; size = size; characters = []; contents = Some os }

abbrev pub then_marked : List AbstractCondition → Facts → Option Slots → Option Slots
then_marked cs f inner = inner >>= λ k. Some (conditions_marked cs f k)

-- ---- all kinds

unfoldable mutual
  -- contents octets; of a CHOICE they are the chosen alternative's encoding
  pub contents_judged : Body → List ℕ → Slots → Option Slots
  contents_judged (simple kind cs) os m =
      unless_fault (simple_fault kind os) (conditions_marked cs (facts (simple_value kind os) (Some os)) m)
  contents_judged (series ps) os m = fields_judged ps os m
  contents_judged (set ps) os m =
      members_at (length os) (λ places os m. member_judged ps 0 places os m) (λ places m. absences_at 0 ps places m)
      [] None os m
  contents_judged (choice ps) os m = chosen_judged ps os m
  contents_judged (list p) os m = elements (λ os. front p os) (λ os m. inside_judged p os m) os m
  contents_judged (set_of p) os m = ordered (λ os. front p os) (λ os m. inside_judged p os m) [] os m
  contents_judged (asked cs body) os m = then_marked cs (whole_facts (size_in body os) os) (contents_judged body os m)
  contents_judged (formula implications body) os m = outside implications m (contents_judged body os none)

  -- what is inside the outermost tag; without a tag, the whole element
  pub inside_judged : Plan → List ℕ → Slots → Option Slots
  inside_judged (plan tags constructed body) os m =
      innermost tags constructed os >>= λ inside. contents_judged body inside m

  pub fields_judged : Parts → List ℕ → Slots → Option Slots
  fields_judged no_parts [] m = Some m
  fields_judged no_parts (o ∷ os) m = None
  fields_judged (part side p ps) os m =
      part_at side (front p os) (λ os m. inside_judged p os m) os m >>= λ x. fields_judged ps x.1 x.0

  -- an element of a SET, by the components of which the first is at place i
  pub member_judged : Parts → ℕ → List ℕ → List ℕ → Slots → Member
  member_judged no_parts i places os m = None
  member_judged (part side p ps) i places os m =
      member_at side (front p os) (λ os m. inside_judged p os m) i places m (member_judged ps (suc i) places os m)

  -- by the first alternative that has the tag
  pub chosen_judged : Parts → List ℕ → Slots → Option Slots
  chosen_judged no_parts os m = None
  chosen_judged (part side p ps) os m =
      chosen_at side (front p os) (λ os m. inside_judged p os m) m (chosen_judged ps os m)

-- one element and nothing after it, from no failure
unfoldable pub message_judged : Plan → List ℕ → Option Slots
message_judged p os = alone (front p os) >>= λ inside. inside_judged p inside none

-- ---- of nodes

abbrev pub identifier_in : Plan → ℕ
identifier_in (plan tags constructed body) = identifier_of tags constructed

abbrev pub other_in : Plan → ℕ
other_in (plan tags constructed body) = other_of tags constructed
