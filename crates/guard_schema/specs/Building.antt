-- What definitions denote, each in turn after all that it uses, or the first fault.
use Rattle.std.specs.Prelude.{◌≡◌, ℕ, ◌+◌, List, [], ◌∷◌, Option, Some, None, Ok, Err, nat_le, slice_get}
use Rattle.guard_model.specs.declared.site.Site.{Site}
use Rattle.guard_model.specs.AbstractType.{AbstractType}
use Rattle.guard_model.specs.AbstractValue.{AbstractValue}
use Rattle.guard_tagcheck.specs.Distinct.{Distinct, IsClash}
use Rattle.guard_tagcheck.specs.InCommon.{in_common}
use Rattle.guard_syntax.specs.Trees.{WrittenValue, WrittenType, WrittenAssignment}
use Rattle.guard_names.specs.Declarations.{Definition, definitions}
use Rattle.guard_tagging.specs.Types.{Surroundings}
use Rattle.guard_tagging.specs.Surroundings.{nodes_of_all}
use Rattle.guard_tagging.specs.Tagged.{IsTagged, IsFirstFault}
use Rattle.guard_tagging.specs.Named as tagging
use Rattle.guard_constraints.specs.Visible.{Visible}
use Rattle.guard_schema.specs.Outcomes.{Is, Passes, Then}
use Rattle.guard_schema.specs.Faults.{Tag, Clash, TooLarge, Outcome, IsNamed}
use Rattle.guard_schema.specs.Known.{Built, Known, with_built, types_of, visible, IsWrittenUnder}
use Rattle.guard_schema.specs.Readings.{ReadsMember}
use Rattle.guard_schema.specs.Finishing.{Finishes}
use Rattle.guard_schema.specs.Counting.{held_by, all_held, most_held}

-- G1 to G12: the tags, the parts and their numbering of a written type, under these surroundings; `before` is the number
-- of types before it
abbrev pub HasTagsUnder : Surroundings → ℕ → WrittenType → Outcome AbstractType → Type 0
HasTagsUnder surroundings before tree (Ok bare) = IsTagged surroundings before tree bare
HasTagsUnder surroundings before tree (Err (Tag f)) =
    IsNamed tagging.named f × IsFirstFault surroundings before tree f
HasTagsUnder surroundings before tree (Err _) = ⊥

-- those of a definition, under the surroundings that it has where this is known
abbrev pub HasTags : Known → Definition → Outcome AbstractType → Type 0
HasTags k d answer =
    (surroundings : Surroundings) × IsWrittenUnder k d surroundings
    × HasTagsUnder surroundings (nodes_of_all (types_of k.built)) d.assignment.ty answer

-- S1: tags tell its components and alternatives apart, or these clash and have that in common
abbrev pub TellsApart : Site → AbstractType → Outcome (Unit {0}) → Type 0
TellsApart site t (Ok _) = Distinct t
TellsApart site t (Err (Clash s clash common)) = (s ≡ site) × IsClash t clash × (common ≡ in_common t clash)
TellsApart site t (Err _) = ⊥

-- the value of a value assignment; a type assignment has none
abbrev pub Assigns : Visible → AbstractType → Option WrittenValue → Outcome (Option AbstractValue) → Type 0
Assigns names t None = Is None
Assigns names t (Some tree) = Then (ReadsMember names t tree) (λ v. Is (Some v))

-- S3: what it and those before it hold
abbrev pub KeepsLimit : ℕ → Site → Built → Outcome (Unit {0}) → Type 0
KeepsLimit before site b = Passes (nat_le (before + held_by b) most_held) (TooLarge site)

-- a definition of this finished type: its value, and that it holds little enough
abbrev pub HasValue : Known → Visible → WrittenAssignment → AbstractType → Outcome Built → Type 0
HasValue k names a t =
    Then (Assigns names t a.value) (λ v.
    Then (KeepsLimit (all_held k.built) a.site (record { ty = t; value = v })) (λ _.
    Is (record { ty = t; value = v })))

-- A definition, where this is known: its tags and parts, whether tags tell the parts apart, constraints and defaults,
-- its value, the limit.
abbrev pub Builds : Known → Definition → Outcome Built → Type 0
Builds k d =
    Then (HasTags k d) (λ bare.
    Then (TellsApart d.assignment.site bare) (λ _.
    Then (Finishes (visible k d.home.name) d.assignment.ty bare) (λ t.
    HasValue k (visible k d.home.name) d.assignment t)))

-- the definition of this number
abbrev pub BuildsNumber : Known → ℕ → Outcome Built → Type 0
BuildsNumber k number answer = (d : Definition) × (slice_get (definitions k.modules) number ≡ Some d)
    × Builds k d answer

-- the definitions of these numbers, each where those before it are known
abbrev pub BuildsAll : Known → List ℕ → Outcome (List Built) → Type 0
BuildsAll k [] = Is k.built
BuildsAll k (number ∷ numbers) = Then (BuildsNumber k number) (λ b. BuildsAll (with_built k b) numbers)
