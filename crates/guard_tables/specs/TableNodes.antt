-- How the nodes of a table stand for plans: parts before wholes, so each stands for what those before it make of it.
use Rattle.std.specs.Prelude.{ℕ, ◌+◌, ◌<◌, ◌≤◌, ◌≡◌, ◌≤ℤ◌, Bool, true, false, ◌&&◌, List, [], ◌∷◌, ◌++◌, length, take, drop, map, slice_get, get_or, Option, Some, None, option_map}
use Rattle.std.specs.Option.{is_none}
use Rattle.guard_model.specs.declared.tag.Tag.{Tag}
use Rattle.guard_model.specs.AbstractType as type
use Rattle.guard_model.specs.Limits.{most_components}
use Rattle.guard_model.specs.Same.{same_numbers}
use Rattle.guard_der.specs.Octets.{twos_complement}
use Rattle.guard_der.specs.Reading.{follows}
use Rattle.guard_der.specs.Simple.{integer_fault, simple_fault, simple_value}
use Rattle.guard_tables.specs.declared.node.Hot.{Hot}
use Rattle.guard_tables.specs.declared.node.Cold.{Cold}
use Rattle.guard_tables.specs.declared.node.Kind.{Kind}
use Rattle.guard_tables.specs.declared.node.Kind.TheVariants as kind
use Rattle.guard_tables.specs.declared.slots.Slots.{Slots}
use Rattle.guard_tables.specs.Slots.{none}
use Rattle.guard_tables.specs.Plan.{AbstractCondition, Side, Plan, Body, Parts, plan, simple, series, set, choice, list, set_of, asked, formula, no_parts, part, body_in, tags_in, form_in}
use Rattle.guard_tables.specs.Marking.{facts, conditions_marked}
use Rattle.guard_tables.specs.NodeViews.{kind_view, condition_view, implication_view, absence_of, identifier_of, other_of}

-- ---- what nodes stand for

-- what a node stands for, beside the others
pub record Spot : Type 0 where
  pub side : Side
  pub plan : Plan

abbrev pub blank : Spot
blank = record {
  side = record { absent = None; present = none; default = None };
  plan = plan [] false (simple type.null []);
}

abbrev pub spot_at : List Spot → ℕ → Spot
spot_at spots k = get_or spots k blank

abbrev pub body_at : List Spot → ℕ → Body
body_at spots k = body_in (spot_at spots k).plan

abbrev pub parts_of : List Spot → Parts
parts_of [] = no_parts
parts_of (s ∷ ss) = part s.side s.plan (parts_of ss)

-- so many from the first on
abbrev pub parts_between : List Spot → ℕ → ℕ → Parts
parts_between spots first count = parts_of (take count (drop first spots))

abbrev pub conditions_of : Cold → List AbstractCondition
conditions_of c = map condition_view c.conditions.list.items

abbrev pub body_of_kind : Kind → Hot → Cold → List Spot → Body
body_of_kind (kind.Simple k) h c spots = simple (kind_view k c.items) (conditions_of c)
body_of_kind kind.Series h c spots = series (parts_between spots h.first h.count)
body_of_kind kind.Set h c spots = set (parts_between spots h.first h.count)
body_of_kind kind.Choice h c spots = choice (parts_between spots h.first h.count)
body_of_kind kind.List h c spots = list (spot_at spots h.first).plan
body_of_kind kind.SetOf h c spots = set_of (spot_at spots h.first).plan
body_of_kind kind.Wrapper h c spots = body_at spots h.first
body_of_kind kind.Asked h c spots = asked (conditions_of c) (body_at spots h.first)
body_of_kind kind.Formula h c spots = formula (map implication_view c.implications.items) (body_at spots h.first)

abbrev pub own_tags : Option Tag → List Tag
own_tags None = []
own_tags (Some t) = t ∷ []

-- A wrapper has its tag round those of the node that it wraps; what is in front of a node has its tags.
abbrev pub tags_of_kind : Kind → Option Tag → List Tag → List Tag
tags_of_kind (kind.Simple k) own inner = own_tags own
tags_of_kind kind.Series own inner = own_tags own
tags_of_kind kind.Set own inner = own_tags own
tags_of_kind kind.Choice own inner = own_tags own
tags_of_kind kind.List own inner = own_tags own
tags_of_kind kind.SetOf own inner = own_tags own
tags_of_kind kind.Wrapper None inner = inner
tags_of_kind kind.Wrapper (Some t) inner = t ∷ inner
tags_of_kind kind.Asked own inner = inner
tags_of_kind kind.Formula own inner = inner

abbrev pub form_of_kind : Kind → Bool → Bool
form_of_kind (kind.Simple k) inner = false
form_of_kind kind.Series inner = true
form_of_kind kind.Set inner = true
form_of_kind kind.Choice inner = true
form_of_kind kind.List inner = true
form_of_kind kind.SetOf inner = true
form_of_kind kind.Wrapper inner = inner
form_of_kind kind.Asked inner = inner
form_of_kind kind.Formula inner = inner

abbrev pub side_of : Hot → Cold → Side
side_of h c = record {
  absent = absence_of h.need c.absent;
  present = c.present;
  default = option_map (λ v. v.items) c.default;
}

unfoldable pub spot_of : Hot → Cold → List Spot → Spot
spot_of h c spots = record {
  side = side_of h c;
  plan = plan (tags_of_kind h.kind c.tag (tags_in (spot_at spots h.first).plan))
      (form_of_kind h.kind (form_in (spot_at spots h.first).plan))
      (body_of_kind h.kind h c spots);
}

-- what all of them stand for, the first of them beside those before it
unfoldable pub spots_from : List Hot → List Cold → List Spot → List Spot
spots_from (h ∷ hs) (c ∷ cs) before = spots_from hs cs (before ++ spot_of h c before ∷ [])
spots_from _ _ before = before

unfoldable pub spots_of : List Hot → List Cold → List Spot
spots_of hots colds = spots_from hots colds []

-- ---- what holds of each node

abbrev pub is_default : Option (List ℕ) → List ℕ → Bool
is_default None os = false
is_default (Some d) os = same_numbers d os

-- Contents octets are lawful for a simple kind.
abbrev pub is_lawful : Body → List ℕ → Bool
is_lawful (simple kind cs) os = is_none (simple_fault kind os)
is_lawful body os = false

-- What fails there of what is asked of the value.
abbrev pub octets_marked : Body → List ℕ → Slots → Slots
octets_marked (simple kind cs) os m = conditions_marked cs (facts (simple_value kind os) (Some os)) m
octets_marked body os m = m

-- These contents octets, inside one tag at most, are lawful and fail nothing, and aren't those of a default.
pub record IsFree (s : Spot) (os : List ℕ) : Type 0 where
  pub single : length (tags_in s.plan) ≤ 1
  pub lawful : is_lawful (body_in s.plan) os ≡ true
  pub free : (m : Slots) → octets_marked (body_in s.plan) os m ≡ m
  pub present : s.side.present ≡ none
  pub new : is_default s.side.default os ≡ false

-- So are those that spell a number from low to high.
abbrev pub IsPlain : Hot → Spot → Type 0
IsPlain h s =
    (os : List ℕ) → integer_fault os ≡ None → h.low ≤ℤ twos_complement os → twos_complement os ≤ℤ h.high → IsFree s os

-- the outermost of these tags
abbrev pub outer_tag : List Tag → Option Tag
outer_tag [] = None
outer_tag (t ∷ ts) = Some t

-- there is this tag, and it comes after the one before (X.680 8.6)
abbrev pub comes_next : Option Tag → Option Tag → Bool
comes_next last None = false
comes_next last (Some tag) = follows last tag

-- After this tag, each part has an outermost one that comes after that of the part before: as a SET's elements come
-- (X.690 10.3).
abbrev pub ascend : Option Tag → Parts → Bool
ascend last no_parts = true
ascend last (part side p ps) = comes_next last (outer_tag (tags_in p)) && ascend (outer_tag (tags_in p)) ps

abbrev pub has_inner : Kind → Bool
has_inner (kind.Simple k) = false
has_inner kind.Series = false
has_inner kind.Set = false
has_inner kind.Choice = false
has_inner kind.List = true
has_inner kind.SetOf = true
has_inner kind.Wrapper = true
has_inner kind.Asked = true
has_inner kind.Formula = true

-- what holds of a node at place k beside these
pub record IsNode (h : Hot) (c : Cold) (spots : List Spot) (k : ℕ) : Type 0 where
  -- the node's parts are before it
  pub before : h.first + h.count ≤ k
  pub inner : has_inner h.kind ≡ true → h.first < k
  -- no more of them than a type has components
  pub few : h.count ≤ most_components
  -- they ascend by their tags where the node says so
  pub ascending : h.ascending ≡ true → ascend None (parts_between spots h.first h.count) ≡ true
  pub identifier : h.identifier ≡ identifier_of (tags_in (spot_of h c spots).plan) (form_in (spot_of h c spots).plan)
  pub other : h.other ≡ other_of (tags_in (spot_of h c spots).plan) (form_in (spot_of h c spots).plan)
  -- a node that isn't watched has no default, and its presence costs nothing
  pub unwatched : h.watched ≡ false → (is_none c.default ≡ true) × (c.present ≡ none)
  pub unasked : h.asked ≡ false → c.conditions.list.items ≡ []
  pub plain : IsPlain h (spot_of h c spots)

pub record IsBuilt (hots : List Hot) (colds : List Cold) : Type 0 where
  pub lengths : length colds ≡ length hots
  pub each : (k : ℕ) (h : Hot) (c : Cold) → slice_get hots k ≡ Some h → slice_get colds k ≡ Some c
      → IsNode h c (spots_of hots colds) k
