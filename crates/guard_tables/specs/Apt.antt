-- Demands that may be made of the values of a kind, and tests that speak of them.
use Rattle.std.specs.Prelude.{◌≡◌, not, IsTrue, List, [], ◌∷◌, Option, Some, None, ⊤}
use Rattle.std.specs.Option.{is_some}
use Rattle.guard_model.specs.AbstractType.{AbstractType, AbstractKind, Constraint}
use Rattle.guard_model.specs.Kinds.{kind_of, element_of, part_of, is_string, type_of_size}
use Rattle.guard_model.specs.SameBase.{bare_kind}
use Rattle.guard_der.specs.ProperConstraints.{may_stand_in, takes_size}
use Rattle.guard_der.specs.Sound.{is_proper, is_proper_constraint}
use Rattle.guard_tables.specs.Demands.{Demand, by_type, by_constraint, SlotDemand, Atom, scalar, equals, sized, spelled, each, within, sent, unsent, Term}
use Rattle.guard_tables.specs.Terms.{is_scalar}

-- kinds of the same base: the same values fit both, constraints aside
abbrev pub IsAlike : AbstractKind → AbstractKind → Type 0
IsAlike one other = bare_kind one ≡ bare_kind other

-- a type of this kind may have the constraint
abbrev pub MayStandOn : AbstractKind → Constraint → Type 0
MayStandOn kind c = (t : AbstractType) × (kind_of t ≡ kind) × IsTrue (is_proper_constraint c t)

-- a demand that may be made of values of this kind
abbrev pub IsApt : AbstractKind → Demand → Type 0
IsApt kind (by_type t) = IsAlike (kind_of t) kind × IsTrue (is_proper t)
IsApt kind (by_constraint own c) = IsAlike own kind × MayStandOn own c

abbrev pub AreApt : AbstractKind → List SlotDemand → Type 0
AreApt kind [] = ⊤
AreApt kind (a ∷ demands) = IsApt kind a.demand × AreApt kind demands

-- there is such a part, and the demand may be made of it
abbrev pub IsAptFor : Option AbstractType → Demand → Type 0
IsAptFor None d = ⊥
IsAptFor (Some t) d = IsApt (kind_of t) d

-- The test is one of values of this kind, and what it asks of parts may be asked of them.
abbrev pub Speaks : AbstractKind → Atom → Type 0
Speaks kind (scalar own c) = IsTrue (is_scalar kind) × IsApt kind (by_constraint own c)
Speaks kind (equals w) =
    IsTrue (not (is_scalar kind)) × (t : AbstractType) × IsAlike (kind_of t) kind × IsTrue (may_stand_in t w)
Speaks kind (sized c) = IsTrue (takes_size kind) × IsTrue (is_proper_constraint c type_of_size)
Speaks kind (spelled ranges) = IsTrue (is_string kind)
Speaks kind (each d) = IsAptFor (element_of kind) d
Speaks kind (within i d) = IsAptFor (part_of i kind) d
Speaks kind (sent i) = IsTrue (is_some (part_of i kind))
Speaks kind (unsent i) = IsTrue (is_some (part_of i kind))

abbrev pub AllSpeak : AbstractKind → List Term → Type 0
AllSpeak kind [] = ⊤
AllSpeak kind (t ∷ ts) = Speaks kind t.atom × AllSpeak kind ts
