-- Laws that functions with no body carry.
use Rattle.std.specs.Prelude.{ℕ, zero, suc, ⊤, ◌+◌, ◌<◌, ◌≤◌, ◌≡◌, Bool, false, not, ◌&&◌, ◌||◌, List, [], ◌∷◌, nat_eq, nat_lt, IsTrue}
use Rattle.guard_model.specs.AbstractType.{AbstractType, AbstractKind}
use Rattle.guard_model.specs.AbstractValue.{AbstractValue}
use Rattle.guard_model.specs.Kinds.{kind_of}
use Rattle.guard_model.specs.SameBase.{HasSameBase}
use Rattle.guard_der.specs.Fits.{fits, fits_kind}
use Rattle.guard_der.specs.Sound.{is_sound}
use Rattle.guard_eval.specs.Member.{is_member}
use Rattle.guard_tables.specs.declared.slots.Slots.{Slots}
use Rattle.guard_tables.specs.Slots.{none, only, added, below, without, has}
use Rattle.guard_tables.specs.Demands.{Demand, by_type, SlotDemand, Term, meets, demands_fail, terms_fail}
use Rattle.guard_tables.specs.Alike.{AreConsistent}
use Rattle.guard_tables.specs.Apt.{IsApt, AreApt, AllSpeak}
use Rattle.guard_tables.specs.Conditions.{has_crowded_node}
use Rattle.guard_tables.specs.Formulas.{never, fails_where}
use Rattle.guard_tables.specs.Forms.{Formula, eithers, form, nothing_yet}
use Rattle.guard_tables.specs.OfParts.{each_of, within_of, terms_at, of_demand, of_demands, demands_from, NeedsFew}
use Rattle.guard_tables.specs.Lay.{lay}
use Rattle.guard_tables.specs.Plan.{Plan}
use Rattle.guard_tables.specs.Marking.{type_marked, fails_at}
use Rattle.guard_tables.specs.Standing.{PlanFor}

-- ---- sets of slots

abbrev pub NoneLaw : Type 0
NoneLaw = (slot : ℕ) → has none slot ≡ false

abbrev pub OnlyLaw : Type 0
OnlyLaw = (one slot : ℕ) → has (only one) slot ≡ nat_eq one slot

abbrev pub AddedLaw : Type 0
AddedLaw = (m k : Slots) (slot : ℕ) → has (added m k) slot ≡ (has m slot || has k slot)

abbrev pub BelowLaw : Type 0
BelowLaw = (n slot : ℕ) → n ≤ 256 → has (below n) slot ≡ nat_lt slot n

abbrev pub WithoutLaw : Type 0
WithoutLaw = (m k : Slots) (slot : ℕ) → has (without m k) slot ≡ (has m slot && not (has k slot))

-- ---- demands as formulas

-- Membership in a sound type may be asked of the values that fit it.
abbrev pub SoundLaw : Type 0
SoundLaw = (t : AbstractType) → IsTrue (is_sound t) → IsApt (kind_of t) (by_type t)

-- the set has the slots from n on as the terms say, up to the last
abbrev pub Agrees : (ℕ → Bool) → AbstractValue → List Term → ℕ → ℕ → Type 0
Agrees failed v terms n last = (j : ℕ) → n ≤ j → j < last → failed j ≡ terms_fail j v terms

-- A demand of any form, with one slot, fails where its own slot has failed or one of its formulas says so.
abbrev pub FormLaw : Type 0
FormLaw = (kind : AbstractKind) (d : Demand) → IsApt kind d → (k n : ℕ) → k < n
    → (v : AbstractValue) → IsTrue (fits_kind kind v)
    → (failed : ℕ → Bool) → Agrees failed v (form (only k) d (nothing_yet n)).terms n (form (only k) d (nothing_yet n)).next
    → (terms_fail k v (form (only k) d (nothing_yet n)).terms
    || fails_where (eithers (form (only k) d (nothing_yet n)).forms never) failed) ≡ not (meets d v)

-- One without formulas is a conjunction: its slots fail exactly where one of its terms does.
abbrev pub ConjunctionLaw : Type 0
ConjunctionLaw = (kind : AbstractKind) (d : Demand) → IsApt kind d → (k : Slots) (n : ℕ)
    → (form k d (nothing_yet n)).forms ≡ [] → (v : AbstractValue) → IsTrue (fits_kind kind v) → (slot : ℕ)
    → terms_fail slot v (form k d (nothing_yet n)).terms ≡ (has k slot && not (meets d v))

-- Each term is one of the values of the kind, and what it asks of a part may be asked of it.
abbrev pub SpeakLaw : Type 0
SpeakLaw = (kind : AbstractKind) (d : Demand) → IsApt kind d → (k : Slots) (n : ℕ)
    → AllSpeak kind (form k d (nothing_yet n)).terms

-- A demand takes no more slots, its own among them, than conditions are counted.
abbrev pub CountLaw : Type 0
CountLaw = (k : Slots) (d : Demand) (f : Formula) → (form k d f).next + 1 ≤ f.next + of_demand d []

-- ---- all nodes

-- What is asked of a part, counted from there on, is no more than what was asked of the whole.
abbrev pub EachPartLaw : Type 0
EachPartLaw = (demands : List SlotDemand) (place : ℕ) (way : List ℕ)
    → of_demands (each_of (terms_at demands)) way ≤ of_demands demands (place ∷ way)

abbrev pub WithinPartLaw : Type 0
WithinPartLaw = (demands : List SlotDemand) (place : ℕ) (way : List ℕ)
    → of_demands (within_of place (terms_at demands)) way ≤ of_demands demands (place ∷ way)

-- Where no node of the declared type has too many conditions, no node needs more slots than a set can have.
abbrev pub FewLaw : Type 0
FewLaw = (declared : AbstractType) (types : List AbstractType) → has_crowded_node types declared ≡ false
    → NeedsFew declared (demands_from 0 types)

-- ---- plans

-- Once a value of a sound type has passed the plan that is laid for what is asked, a slot has failed exactly where it
-- is one of something that isn't met.
abbrev pub LayLaw : Type 0
LayLaw = (t : AbstractType) → IsTrue (is_sound t) → (demands : List SlotDemand) → AreApt (kind_of t) demands
    → (v : AbstractValue) → IsTrue (fits t v) → (slot : ℕ) → fails_at t (lay t demands) v slot ≡ demands_fail slot v demands

-- What fails at a value is added to what failed before.
abbrev pub MarkedLaw : Type 0
MarkedLaw = (t : AbstractType) (p : Plan) (v : AbstractValue) (m : Slots) → type_marked t p v m ≡ added m (type_marked t p v none)

-- ---- what a table's types fail

-- these types are sound, and have the declared type's base
abbrev pub AllMayJudge : AbstractType → List AbstractType → Type 0
AllMayJudge declared [] = ⊤
AllMayJudge declared (t ∷ ts) = HasSameBase t declared × IsTrue (is_sound t) × AllMayJudge declared ts

-- the value is no member of the type with this slot
abbrev pub has_failed : List AbstractType → AbstractValue → ℕ → Bool
has_failed [] v slot = false
has_failed (t ∷ ts) v zero = not (is_member t v)
has_failed (t ∷ ts) v (suc slot) = has_failed ts v slot

-- Once a value of the declared type has passed the plan of all types, a slot has failed exactly where the value is no
-- member of its type.
abbrev pub MemberLaw : Type 0
MemberLaw = (declared : AbstractType) (types : List AbstractType)
    → IsTrue (is_sound declared) → AllMayJudge declared types
    → (v : AbstractValue) → IsTrue (fits declared v) → (slot : ℕ)
    → fails_at declared (lay declared (demands_from 0 types)) v slot ≡ has_failed types v slot

-- Of the types of a table: slot 0 is the declared type's, and slot i + 1 that of rule i.
abbrev pub TableMembersLaw : Type 0
TableMembersLaw = (declared : AbstractType) (rules : List AbstractType) → AreConsistent declared rules
    → (v : AbstractValue) → IsTrue (fits declared v) → (slot : ℕ)
    → fails_at declared (lay declared (demands_from 0 (declared ∷ rules))) v slot ≡ has_failed (declared ∷ rules) v slot

-- At each node of a table there is room for all slots that are needed.
abbrev pub TableRoomLaw : Type 0
TableRoomLaw = (declared : AbstractType) (rules : List AbstractType) → AreConsistent declared rules
    → NeedsFew declared (demands_from 0 (declared ∷ rules))

-- ---- which type a plan stands for

-- The plan that is laid for a sound type stands for the type, whatever is asked.
abbrev pub StandsLaw : Type 0
StandsLaw = (t : AbstractType) → IsTrue (is_sound t) → (demands : List SlotDemand) → PlanFor (lay t demands) t
