-- Which types a plan stands for, what is asked aside: it has their tags, parts and defaults.
use Rattle.std.specs.Prelude.{ℕ, ◌≡◌, ◌<◌, ◌^◌, IsTrue, List, [], ◌∷◌, length, map, Option, Some, None, Ok, ⊤}
use Rattle.std.specs.Option.{is_some}
use Rattle.std.specs.List.{AllByRecursion}
use Rattle.guard_model.specs.declared.tag.Tag.{Tag}
use Rattle.guard_model.specs.Tags.{same_tag}
use Rattle.guard_model.specs.AbstractType as type
use Rattle.guard_model.specs.AbstractType.{AbstractType, AbstractKind, AbstractPresence, Components, type_of, no_components, component}
use Rattle.guard_model.specs.AbstractValue.{AbstractValue}
use Rattle.guard_model.specs.Kinds.{has_named_bits}
use Rattle.guard_model.specs.Same.{same, same_numbers}
use Rattle.guard_der.specs.Der.{is_constructed, contents_octets}
use Rattle.guard_der.specs.Reading as reading
use Rattle.guard_der.specs.Reading.{contents_at, untagged_at, tags_at, alone_at}
use Rattle.guard_tables.specs.declared.slots.Slots.{Slots}
use Rattle.guard_tables.specs.Slots.{added}
use Rattle.guard_tables.specs.Plan.{Side, Plan, Body, Parts, plan, simple, series, set, choice, list, set_of, asked, formula, no_parts, part}
use Rattle.guard_tables.specs.Marking.{absence_marked, type_marked}

-- ---- octets that tell a value

-- A value that is read from contents octets has these contents octets.
abbrev pub Spells : AbstractKind → Type 0
Spells kind =
    (at start : ℕ) (os : List ℕ) (v : AbstractValue) → AllByRecursion (λ o. o < 256) os → length os < 2 ^ 32
    → contents_at kind at start os ≡ Ok v → contents_octets kind v ≡ Some os

-- what is inside the outermost tag; without a tag, as of a CHOICE, the whole encoding
abbrev pub inside_at : List Tag → AbstractKind → reading.Body
inside_at [] kind = contents_at kind
inside_at (t ∷ []) kind = contents_at kind
inside_at (t ∷ u ∷ ts) kind = λ at start os.
    alone_at (same_tag u) (tags_at (u ∷ ts) (is_constructed kind) (contents_at kind) (untagged_at kind)) start os

-- The octets that are stored of a default tell it from each other value.
abbrev pub Tells : List Tag → AbstractKind → AbstractValue → List ℕ → Type 0
Tells tags kind d octets =
    (at start : ℕ) (os : List ℕ) (v : AbstractValue) → AllByRecursion (λ o. o < 256) os → length os < 2 ^ 32
    → inside_at tags kind at start os ≡ Ok v → same d v ≡ same_numbers octets os

abbrev pub DefaultFor : Option (List ℕ) → List Tag → AbstractKind → AbstractValue → Type 0
DefaultFor None tags kind d = ⊥
DefaultFor (Some octets) tags kind d = Tells tags kind d octets

-- ---- what is said of components

-- Where a default is absent the same fails as where it is there.
abbrev pub SideFor : Side → Plan → List Tag → AbstractKind → AbstractPresence → Type 0
SideFor side p tags kind type.mandatory = (side.absent ≡ None) × (side.default ≡ None)
SideFor side p tags kind type.optional = IsTrue (is_some side.absent) × (side.default ≡ None)
-- no type that is sound has one
SideFor side p tags kind type.pending = ⊥
SideFor side p tags kind (type.default d) =
    IsTrue (is_some side.absent) × DefaultFor side.default tags kind d
    × ((m : Slots)
    → type_marked (type_of tags kind type.no_constraints) p d (added m side.present) ≡ absence_marked side.absent m)

-- ---- types

-- kinds with the same encodings and values
abbrev pub SimpleFor : AbstractKind → AbstractKind → Type 0
SimpleFor type.boolean type.boolean = ⊤
SimpleFor (type.integer one) (type.integer other) = ⊤
SimpleFor (type.bit_string one) (type.bit_string other) =
    has_named_bits (type.bit_string one) ≡ has_named_bits (type.bit_string other)
SimpleFor type.octet_string type.octet_string = ⊤
SimpleFor type.null type.null = ⊤
SimpleFor type.object_identifier type.object_identifier = ⊤
SimpleFor (type.enumerated one) (type.enumerated other) = map (λ n. n.number) one ≡ map (λ n. n.number) other
SimpleFor (type.characters one) (type.characters other) = one ≡ other
SimpleFor _ _ = ⊥

-- a kind that has parts, with what is in front of it
abbrev pub IsWhole : Body → Type 0
IsWhole (simple kind cs) = ⊥
IsWhole (series ps) = ⊤
IsWhole (set ps) = ⊤
IsWhole (choice ps) = ⊤
IsWhole (list p) = ⊤
IsWhole (set_of p) = ⊤
IsWhole (asked cs body) = IsWhole body
IsWhole (formula implications body) = IsWhole body

abbrev mutual
  pub PlanFor : Plan → AbstractType → Type 0
  PlanFor (plan tags constructed body) (type_of others kind cons) =
      (tags ≡ others) × (constructed ≡ is_constructed kind) × BodyFor body kind

  pub BodyFor : Body → AbstractKind → Type 0
  BodyFor (simple one cs) kind = SimpleFor one kind
  BodyFor (series ps) (type.sequence cs) = PartsFor ps cs
  BodyFor (set ps) (type.set cs) = PartsFor ps cs
  BodyFor (choice ps) (type.choice cs) = AlternativesFor ps cs
  BodyFor (list p) (type.sequence_of t) = PlanFor p t
  BodyFor (set_of p) (type.set_of t) = PlanFor p t
  -- of a simple kind its own node asks
  BodyFor (asked cs body) kind = Spells kind × BodyFor body kind × IsWhole body
  BodyFor (formula implications body) kind = BodyFor body kind
  BodyFor body kind = ⊥

  pub PartsFor : Parts → Components → Type 0
  PartsFor no_parts no_components = ⊤
  PartsFor (part side p ps) (component name (type_of tags kind cons) presence cs) =
      PlanFor p (type_of tags kind cons) × SideFor side p tags kind presence × PartsFor ps cs
  PartsFor ps cs = ⊥

  pub AlternativesFor : Parts → Components → Type 0
  AlternativesFor no_parts no_components = ⊤
  AlternativesFor (part side p ps) (component name t presence cs) = PlanFor p t × AlternativesFor ps cs
  AlternativesFor ps cs = ⊥
