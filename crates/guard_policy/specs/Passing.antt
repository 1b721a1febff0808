-- Whether a message's octets go under the rules of a route.
use Rattle.std.specs.Prelude.{◌≡◌, ◌≢◌, ◌⊎◌, ℕ, suc, List, [], ◌∷◌, Option, Some, None, IsTrue, if◌then◌else◌}
use Rattle.std.specs.Arc.{arc_value}
use Rattle.guard_model.specs.AbstractValue.{AbstractValue}
use Rattle.guard_der.specs.Der.{der}
use Rattle.guard_der.specs.Fits.{fits}
use Rattle.guard_reader.specs.declared.marks.Marks.{Marks}
use Rattle.guard_reader.specs.Marking.{HasMarks}
use Rattle.guard_tables.specs.declared.slots.Slots.{Slots}
use Rattle.guard_tables.specs.declared.table.Table.{Table}
use Rattle.guard_tables.specs.Slots.{none, has}
use Rattle.guard_tables.specs.TableView.{declared_of, table_types}
use Rattle.guard_policy.specs.declared.kept.KeptMessage.{KeptMessage}
use Rattle.guard_policy.specs.declared.passing.Passing.{Passing}
use Rattle.guard_policy.specs.declared.passing.Passing.TheVariants as passing
use Rattle.guard_policy.specs.declared.routing.RouteRules.{RouteRules}
use Rattle.guard_policy.specs.declared.verdict.PlainReason.{PlainReason}
use Rattle.guard_policy.specs.declared.verdict.PlainReason.TheVariants as plain
use Rattle.guard_policy.specs.Routing.{common}

-- the octets are the encoding of a value of the declared type, which has these marks
abbrev pub AreMarks : Table → List ℕ → Marks → Type 0
AreMarks table octets marks =
    (v : AbstractValue) × IsTrue (fits (declared_of table) v) × (der (declared_of table) v ≡ Some octets)
    × HasMarks marks (table_types table) v

-- the octets are the encoding of no value of the declared type
abbrev pub EncodeNothing : Table → List ℕ → Type 0
EncodeNothing table octets =
    (v : AbstractValue) → IsTrue (fits (declared_of table) v) → der (declared_of table) v ≡ Some octets → ⊥

-- of the rules of these numbers, the first of which has this slot, the first whose slot is in the set
abbrev pub first_in : Slots → ℕ → List ℕ → Option ℕ
first_in m slot [] = None
first_in m slot (n ∷ ns) = if has m slot then Some n else first_in m (suc slot) ns

-- Of a value that the types in these slots have, the declared one among them: this rule, by its number, is the first
-- allowing one that has it, and no denying one has it.
abbrev pub IsLetBy : RouteRules → List ℕ → Slots → ℕ → Type 0
IsLetBy rules numbers members rule =
    (first_in (common rules.allowing members) 1 numbers ≡ Some rule) × (common rules.denying members ≡ none)

abbrev pub IsLetByNone : RouteRules → List ℕ → Slots → Type 0
IsLetByNone rules numbers members = (rule : ℕ) → IsLetBy rules numbers members rule → ⊥

-- Of a value that the types in these slots have, the declared one among them: a denying rule is the first that has it;
-- or there is none, and no allowing rule has it, or there is no allowing rule.
abbrev pub IsToldBy : RouteRules → List ℕ → Slots → PlainReason → Type 0
IsToldBy rules numbers members plain.UnknownMessage = ⊥
IsToldBy rules numbers members (plain.DeniedBy i) = first_in (common rules.denying members) 1 numbers ≡ Some i
IsToldBy rules numbers members plain.NotAllowed =
    (common rules.denying members ≡ none) × (rules.allowing ≢ none) × (common rules.allowing members ≡ none)
IsToldBy rules numbers members plain.NoRule = (common rules.denying members ≡ none) × (rules.allowing ≡ none)

-- what is told of the octets of the message under these rules
abbrev pub IsAnswer : KeptMessage → RouteRules → List ℕ → Passing → Type 0
IsAnswer m rules octets (passing.Goes rule) =
    (marks : Marks) × AreMarks (arc_value m.table) octets marks × IsTrue (has marks.members 0)
    × IsLetBy rules m.numbers.items marks.members rule
IsAnswer m rules octets (passing.Stopped (Some reason)) =
    (marks : Marks) × AreMarks (arc_value m.table) octets marks × IsTrue (has marks.members 0)
    × IsLetByNone rules m.numbers.items marks.members
    × IsToldBy rules m.numbers.items marks.members reason
IsAnswer m rules octets (passing.Stopped None) =
    EncodeNothing (arc_value m.table) octets
    ⊎ ((marks : Marks) × AreMarks (arc_value m.table) octets marks
    × (IsTrue (has marks.members 0) → IsLetByNone rules m.numbers.items marks.members))
