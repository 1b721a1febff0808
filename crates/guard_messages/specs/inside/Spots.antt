-- Spots and parts as the code has them.
use Rattle.std.specs.Prelude.{◌≡◌, ◌⊎◌, ◌≤◌, ◌++◌, ℕ, suc, nat_le, Bool, true, false, List, map, string_bytes, Option, IsTrue}
use Rattle.guard_model.specs.AbstractType.{Components, no_components, component}
use Rattle.guard_model.specs.AbstractValue.{AbstractValue}
use Rattle.guard_model.specs.Kinds.{kind_of}
use Rattle.guard_model.specs.TypeView.{component_view, components_of, type_view}
use Rattle.guard_der.specs.Sound.{is_sound}
use Rattle.guard_messages.specs.PartsBefore.{AbstractDue, AbstractPart, AbstractSpotIn, IsWhole, LinesFrom, LinesOfPart, LinesOn, any_of, due_inside, element, in_order, message, nothing, value_line}
use Rattle.guard_messages.specs.declared.parts_before.Due.{Due}
use Rattle.guard_messages.specs.declared.parts_before.Due.TheVariants as code
use Rattle.guard_messages.specs.declared.parts_before.Part.{Part}
use Rattle.guard_messages.specs.declared.parts_before.SpotIn.{SpotIn}

abbrev pub due_view : Due → AbstractDue
due_view (code.Message t) = message (type_view t.now)
due_view (code.InOrder cs) = in_order (components_of (map component_view cs.now))
due_view (code.AnyOf cs) = any_of (components_of (map component_view cs.now))
due_view (code.Element i t) = element i (type_view t.now)
due_view code.Nothing = nothing

abbrev pub spot_in_view : SpotIn → AbstractSpotIn
spot_in_view s = record { at = s.at; way = string_bytes s.way; due = due_view s.due }

abbrev pub part_view : Part → AbstractPart
part_view p = record { way = string_bytes p.way; ty = type_view p.ty.now; after = due_view p.after }

-- each type that may begin there is sound
abbrev pub AreSound : Components → Type 0
AreSound no_components = Unit {0}
AreSound (component name t presence rest) = IsTrue (is_sound t) × AreSound rest

abbrev pub HoldsSound : AbstractDue → Type 0
HoldsSound (message t) = IsTrue (is_sound t)
HoldsSound (in_order cs) = AreSound cs
HoldsSound (any_of cs) = AreSound cs
HoldsSound (element i t) = IsTrue (is_sound t)
HoldsSound nothing = Unit {0}

-- the number of an element is at most this
abbrev pub IsNumbered : ℕ → AbstractDue → Type 0
IsNumbered n (message t) = Unit {0}
IsNumbered n (in_order cs) = Unit {0}
IsNumbered n (any_of cs) = Unit {0}
IsNumbered n (element i t) = i ≤ n
IsNumbered n nothing = Unit {0}

-- One step from a spot on: it appends a line, and what comes from the spot on is that line and the lines from the next
-- spot on, in so many steps more.
abbrev pub StepsTo : List ℕ → ℕ → AbstractSpotIn → List ℕ → List ℕ → Option AbstractSpotIn → Type 0
StepsTo octets breach s old new next =
    (line : List ℕ) × (new ≡ old ++ line)
    × ((n : ℕ) (rest : List ℕ) → LinesOn (LinesFrom n octets breach) next rest
    → LinesFrom (suc n) octets breach s (line ++ rest))

-- One step from a spot on, as `StepsTo` says it, where this part is at the spot and ends at this place.
abbrev pub StepsOver : List ℕ → ℕ → AbstractSpotIn → ℕ → AbstractPart → List ℕ → List ℕ → Option AbstractSpotIn → Type 0
StepsOver octets breach s end p old new next =
    (line : List ℕ) × (new ≡ old ++ line)
    × ((n : ℕ) (rest : List ℕ) → LinesOn (LinesFrom n octets breach) next rest
    → LinesOfPart (LinesFrom n octets breach) octets s end p (nat_le end breach) (line ++ rest))

-- the line of a part is appended, if it is whole
abbrev pub AddsPart : Bool → AbstractPart → List ℕ → List ℕ → List ℕ → Type 0
AddsPart true p octets old new = (v : AbstractValue) × IsWhole p octets v × (new ≡ old ++ value_line p v)
AddsPart false p octets old new = ((v : AbstractValue) → IsWhole p octets v → ⊥) × (new ≡ old)

-- what may begin after the part, or in it
abbrev pub FollowsPart : AbstractPart → AbstractDue → Type 0
FollowsPart p due = (due ≡ p.after) ⊎ (due ≡ due_inside (kind_of p.ty))
