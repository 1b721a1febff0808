-- What is asked of the parts of a node, and how many conditions that are at each.
use Rattle.std.specs.Prelude.{ℕ, suc, ◌+◌, ◌≤◌, nat_eq, List, [], ◌∷◌, ◌++◌, if◌then◌else◌, ⊤}
use Rattle.guard_model.specs.AbstractType as type
use Rattle.guard_model.specs.AbstractType.{AbstractType, AbstractKind, Components, type_of, no_components, component}
use Rattle.guard_tables.specs.declared.slots.Slots.{Slots}
use Rattle.guard_tables.specs.Slots.{only}
use Rattle.guard_tables.specs.Conditions.{of_type, of_constraint, most_conditions}
use Rattle.guard_tables.specs.Demands.{Demand, by_type, by_constraint, SlotDemand, Atom, scalar, equals, sized, spelled, each, within, sent, unsent, Term}
use Rattle.guard_tables.specs.Forms.{forms_of}

-- ---- what is asked of parts

abbrev pub slot_demand : Slots → Demand → SlotDemand
slot_demand k d = record { slots = k; demand = d }

-- of each element
abbrev pub each_in : Slots → Atom → List SlotDemand
each_in k (each d) = slot_demand k d ∷ []
each_in k (within i d) = []
each_in k (scalar kind c) = []
each_in k (equals w) = []
each_in k (sized c) = []
each_in k (spelled ranges) = []
each_in k (sent i) = []
each_in k (unsent i) = []

abbrev pub each_of : List Term → List SlotDemand
each_of [] = []
each_of (t ∷ ts) = each_in t.slots t.atom ++ each_of ts

-- of the component or alternative at this place
abbrev pub within_in : ℕ → Slots → Atom → List SlotDemand
within_in i k (within j d) = if nat_eq j i then slot_demand k d ∷ [] else []
within_in i k (each d) = []
within_in i k (scalar kind c) = []
within_in i k (equals w) = []
within_in i k (sized c) = []
within_in i k (spelled ranges) = []
within_in i k (sent j) = []
within_in i k (unsent j) = []

abbrev pub within_of : ℕ → List Term → List SlotDemand
within_of i [] = []
within_of i (t ∷ ts) = within_in i t.slots t.atom ++ within_of i ts

-- ---- how many conditions these are

abbrev pub of_demand : Demand → List ℕ → ℕ
of_demand (by_type t) way = of_type t way
of_demand (by_constraint kind c) way = of_constraint c way

abbrev pub of_demands : List SlotDemand → List ℕ → ℕ
of_demands [] way = 0
of_demands (a ∷ demands) way = of_demand a.demand way + of_demands demands way

-- that a test hands on to the part at this place
abbrev pub of_atom : Atom → ℕ → List ℕ → ℕ
of_atom (each d) place way = of_demand d way
of_atom (within i d) place way = if nat_eq i place then of_demand d way else 0
of_atom (scalar kind c) place way = 0
of_atom (equals w) place way = 0
of_atom (sized c) place way = 0
of_atom (spelled ranges) place way = 0
of_atom (sent i) place way = 0
of_atom (unsent i) place way = 0

abbrev pub of_terms : List Term → ℕ → List ℕ → ℕ
of_terms [] place way = 0
of_terms (t ∷ ts) place way = of_atom t.atom place way + of_terms ts place way

-- ---- at all nodes of a type

abbrev pub terms_at : List SlotDemand → List Term
terms_at demands = (forms_of demands).terms

-- at each node there are at most so many, where this is asked of values of the type
abbrev mutual
  pub NeedsFew : AbstractType → List SlotDemand → Type 0
  NeedsFew (type_of tags kind cons) demands = (of_demands demands [] ≤ most_conditions) × NeedsFewInside kind (terms_at demands)

  pub NeedsFewInside : AbstractKind → List Term → Type 0
  NeedsFewInside (type.sequence cs) terms = NeedsFewAmong 0 cs terms
  NeedsFewInside (type.set cs) terms = NeedsFewAmong 0 cs terms
  NeedsFewInside (type.choice cs) terms = NeedsFewAmong 0 cs terms
  NeedsFewInside (type.sequence_of t) terms = NeedsFew t (each_of terms)
  NeedsFewInside (type.set_of t) terms = NeedsFew t (each_of terms)
  NeedsFewInside type.boolean terms = ⊤
  NeedsFewInside (type.integer names) terms = ⊤
  NeedsFewInside (type.bit_string names) terms = ⊤
  NeedsFewInside type.octet_string terms = ⊤
  NeedsFewInside type.null terms = ⊤
  NeedsFewInside type.object_identifier terms = ⊤
  NeedsFewInside (type.enumerated items) terms = ⊤
  NeedsFewInside (type.characters kind) terms = ⊤

  -- of these components, the first of which is at this place
  pub NeedsFewAmong : ℕ → Components → List Term → Type 0
  NeedsFewAmong i no_components terms = ⊤
  NeedsFewAmong i (component name t presence cs) terms = NeedsFew t (within_of i terms) × NeedsFewAmong (suc i) cs terms

-- ---- what a table asks

-- membership in each of these types, the first with this slot
abbrev pub demands_from : ℕ → List AbstractType → List SlotDemand
demands_from n [] = []
demands_from n (t ∷ ts) = slot_demand (only n) (by_type t) ∷ demands_from (suc n) ts
