-- What is at the front of octets, seen from a plan.
use Rattle.std.specs.Prelude.{ℕ, ◌+◌, ◌-◌, Bool, false, List, [], ◌∷◌, length, take, drop, nat_eq, Option, Some, None, Result, Ok, Err, if◌then◌else◌}
use Rattle.guard_model.specs.declared.tag.Tag.{Tag}
use Rattle.guard_model.specs.Tags.{same_tag}
use Rattle.guard_der.specs.declared.breach.Code.{Code}
use Rattle.guard_der.specs.Head.{Head, head_of}
use Rattle.guard_der.specs.Reading.{same_form}
use Rattle.guard_tables.specs.NodeViews.{outer_form, identifier_of, other_of}
use Rattle.guard_tables.specs.Plan.{Plan, Body, Parts, plan, simple, series, set, choice, list, set_of, asked, formula, no_parts, part}
use Rattle.guard_reader.specs.Octets.{◌>>=◌, split}

pub data Front : Type 0 where
  -- an element of the plan: what is inside its outermost tag, of an untagged CHOICE all of it; and what follows it
  here : List ℕ → List ℕ → Front
  -- the end, or an element with another tag
  elsewhere : Front
  -- an element with this tag in the other form, or none
  broken : Front

-- an element and nothing after it
abbrev pub alone : Front → Option (List ℕ)
alone (here inside []) = Some inside
alone (here inside (o ∷ rest)) = None
alone elsewhere = None
alone broken = None

-- an element where one is due, and what follows it
abbrev pub element_in : Front → Option (List ℕ × List ℕ)
element_in (here inside rest) = Some (inside, rest)
element_in elsewhere = None
element_in broken = None

-- ---- by one identifier octet, and that of the other form

abbrev pub begins : ℕ → List ℕ → Bool
begins octet [] = false
begins octet (o ∷ os) = nat_eq o octet

abbrev pub after_one : List ℕ → List ℕ
after_one [] = []
after_one (o ∷ os) = os

abbrev pub front_cut : Option (List ℕ × List ℕ) → Front
front_cut None = broken
front_cut (Some x) = here x.0 x.1

unfoldable pub octet_front : ℕ → ℕ → List ℕ → Front
octet_front identifier other os =
    if begins identifier os then front_cut (split (after_one os))
    else if begins other os then broken else elsewhere

-- ---- by a header: of a tag from 31 on

abbrev pub front_headed : Tag → Bool → List ℕ → Result Head Code → Front
front_headed t constructed os (Err c) = broken
front_headed t constructed os (Ok h) =
    if same_tag t h.tag
    then (if same_form h.constructed constructed
    then here (take h.contents (drop h.size os)) (drop (h.size + h.contents) os) else broken)
    else elsewhere

unfoldable pub head_front : Tag → Bool → List ℕ → Front
head_front t constructed [] = elsewhere
head_front t constructed (o ∷ os) = front_headed t constructed (o ∷ os) (head_of (o ∷ os))

-- ---- by a plan

-- the outermost tag has no identifier octet of its own
abbrev pub far_front : List Tag → Bool → List ℕ → Front → Front
far_front [] constructed os untagged = untagged
far_front (t ∷ ts) constructed os untagged = head_front t (outer_form ts constructed) os

-- with these tags from the outside in; where there are none, what is there without a tag
unfoldable pub tagged_front : List Tag → Bool → List ℕ → Front → Front
tagged_front tags constructed os untagged =
    if nat_eq (identifier_of tags constructed) 256 then far_front tags constructed os untagged
    else octet_front (identifier_of tags constructed) (other_of tags constructed) os

-- octets without those that are left after them
abbrev pub front_of : List ℕ → List ℕ → List ℕ
front_of os rest = take (length os - length rest) os

-- of an untagged CHOICE the whole element is inside (X.690 8.13)
abbrev pub all_inside : List ℕ → Front → Front
all_inside os (here inside rest) = here (front_of os rest) rest
all_inside os elsewhere = elsewhere
all_inside os broken = broken

abbrev pub or_front : Front → Front → Front
or_front (here inside rest) later = here inside rest
or_front elsewhere later = later
or_front broken later = broken

unfoldable mutual
  pub front : Plan → List ℕ → Front
  front (plan tags constructed body) os = tagged_front tags constructed os (body_front body os)

  -- without a tag: only a CHOICE has none
  pub body_front : Body → List ℕ → Front
  body_front (choice ps) os = all_inside os (parts_front ps os)
  body_front (asked cs body) os = body_front body os
  body_front (formula implications body) os = body_front body os
  body_front (simple kind cs) os = elsewhere
  body_front (series ps) os = elsewhere
  body_front (set ps) os = elsewhere
  body_front (list p) os = elsewhere
  body_front (set_of p) os = elsewhere

  -- of the first alternative that has the tag
  pub parts_front : Parts → List ℕ → Front
  parts_front no_parts os = elsewhere
  parts_front (part side p ps) os = or_front (front p os) (parts_front ps os)

-- ---- explicit tags

-- Each tag but the last is a wrapper: inside it is one element with the other tags (X.690 8.14). Of what is inside the
-- outermost tag, what is inside the last one.
unfoldable pub innermost : List Tag → Bool → List ℕ → Option (List ℕ)
innermost [] constructed os = Some os
innermost (t ∷ []) constructed os = Some os
innermost (t ∷ u ∷ ts) constructed os =
    alone (tagged_front (u ∷ ts) constructed os elsewhere) >>= λ inside. innermost (u ∷ ts) constructed inside
