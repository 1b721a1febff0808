-- Rules that no value of their message's declared type is under, as far as integers and sizes tell.
use Rattle.std.specs.Prelude.{ℕ, suc, ◌^◌, ◌-◌, nat_eq, int_le, ℤ, pos, negsuc, ◌+ℤ◌, Bool, true, false, not, ◌&&◌, ◌||◌, List, [], ◌∷◌, ◌++◌, slice_get, Option, Some, None, IsTrue, if◌then◌else◌}
use Rattle.std.specs.List.{list_any, list_all}
use Rattle.guard_model.specs.AbstractType as type
use Rattle.guard_model.specs.AbstractType.{AbstractType, AbstractKind, Components, Constraint, Constraints, Element, NamedNumber, Parts, type_of, no_components, component, at, no_constraints, constraint}
use Rattle.guard_model.specs.AbstractValue as value
use Rattle.guard_model.specs.AbstractValue.{AbstractValue}
use Rattle.guard_model.specs.Components.{components_in, component_at}
use Rattle.guard_model.specs.Kinds.{is_integer}
use Rattle.guard_model.specs.Limits.{fits_128_bits}
use Rattle.guard_model.specs.TypeView.{OneComponent}
use Rattle.guard_model.specs.declared.tag.Tag.{Tag}
use Rattle.guard_model.specs.declared.ty.Limit.{Limit}
use Rattle.guard_model.specs.declared.ty.Limit.TheVariants.{Free, At, Past}
use Rattle.guard_der.specs.Fits.{may_be_absent}
use Rattle.guard_eval.specs.Member.{is_member, holds}
use Rattle.guard_eval.specs.Presence.{kind_at}
use Rattle.guard_tables.specs.Demands.{Demand, by_type, by_constraint}
use Rattle.guard_policy.specs.Policies.{AbstractPolicy, AbstractRule, declared_type}

-- ---- where sets of integers may begin: such a set has a number only if it has one of these, or the least of all

-- 51.4: of the integers from one end on, and of those past the other
abbrev pub low_starts : Limit → List ℤ
low_starts Free = []
low_starts (At low) = low ∷ []
low_starts (Past low) = (low +ℤ pos 1) ∷ []

abbrev pub high_starts : Limit → List ℤ
high_starts Free = []
high_starts (At high) = (high +ℤ pos 1) ∷ []
high_starts (Past high) = high ∷ []

-- 51.2: of an integer alone, and of those past it
abbrev pub value_starts : AbstractValue → List ℤ
value_starts (value.integer z) = z ∷ (z +ℤ pos 1) ∷ []
value_starts _ = []

abbrev mutual
  pub starts : Constraint → List ℤ
  starts (at site e) = element_starts e

  pub element_starts : Element → List ℤ
  element_starts (type.single_value w) = value_starts w
  element_starts (type.contained_subtype t) = type_starts t
  element_starts (type.range low high) = low_starts low ++ high_starts high
  element_starts (type.size c) = starts c
  element_starts (type.permitted_alphabet ranges) = []
  element_starts (type.with_component c) = []
  element_starts (type.with_components partial ps) = []
  element_starts (type.union cs) = all_starts cs
  element_starts (type.intersection cs) = all_starts cs
  element_starts (type.except c d) = starts c ++ starts d
  element_starts (type.all_except c) = starts c

  pub type_starts : AbstractType → List ℤ
  type_starts (type_of tags kind cons) = all_starts cons

  pub all_starts : Constraints → List ℤ
  all_starts no_constraints = []
  all_starts (constraint c cs) = starts c ++ all_starts cs

abbrev pub demand_starts : Demand → List ℤ
demand_starts (by_type t) = type_starts t
demand_starts (by_constraint kind c) = starts c

abbrev pub starts_of : List Demand → List ℤ
starts_of [] = []
starts_of (d ∷ ds) = demand_starts d ++ starts_of ds

-- ---- what is asked of one integer

-- of this profile
abbrev pub least_number : ℤ
least_number = negsuc (2 ^ 127 - 1)

-- what is asked of another kind than INTEGER tells nothing of integers
abbrev pub demand_has_number : ℤ → Demand → Bool
demand_has_number z (by_type t) = is_member t (value.integer z)
demand_has_number z (by_constraint kind c) = not (is_integer kind) || holds c kind (value.integer z)

abbrev pub all_have_number : List Demand → ℤ → Bool
all_have_number asked z = list_all (demand_has_number z) asked

-- no integer of this profile meets all that is asked
abbrev pub have_no_number : List Demand → Bool
have_no_number asked =
    not (list_any (λ z. fits_128_bits z && all_have_number asked z) (least_number ∷ starts_of asked))

-- ---- of sizes (51.5): which ones values may have, as far as SIZE tells; what comes after EXCEPT takes none away

abbrev mutual
  pub may_have_size : Constraint → ℤ → Bool
  may_have_size (at site e) z = element_may_have_size e z

  pub element_may_have_size : Element → ℤ → Bool
  element_may_have_size (type.single_value w) z = true
  element_may_have_size (type.contained_subtype t) z = type_may_have_size t z
  element_may_have_size (type.range low high) z = true
  element_may_have_size (type.size c) z = fits_128_bits z && holds c (type.integer []) (value.integer z)
  element_may_have_size (type.permitted_alphabet ranges) z = true
  element_may_have_size (type.with_component c) z = true
  element_may_have_size (type.with_components partial ps) z = true
  element_may_have_size (type.union cs) z = some_may_have_size cs z
  element_may_have_size (type.intersection cs) z = all_may_have_size cs z
  element_may_have_size (type.except c d) z = may_have_size c z
  element_may_have_size (type.all_except c) z = true

  pub type_may_have_size : AbstractType → ℤ → Bool
  type_may_have_size (type_of tags kind cons) z = all_may_have_size cons z

  pub all_may_have_size : Constraints → ℤ → Bool
  all_may_have_size no_constraints z = true
  all_may_have_size (constraint c cs) z = may_have_size c z && all_may_have_size cs z

  pub some_may_have_size : Constraints → ℤ → Bool
  some_may_have_size no_constraints z = false
  some_may_have_size (constraint c cs) z = may_have_size c z || some_may_have_size cs z

abbrev pub demand_may_have_size : ℤ → Demand → Bool
demand_may_have_size z (by_type t) = type_may_have_size t z
demand_may_have_size z (by_constraint kind c) = may_have_size c z

abbrev pub is_size : ℤ → Bool
is_size z = fits_128_bits z && int_le (pos 0) z

-- no size is one that all may have
abbrev pub have_no_size : List Demand → Bool
have_no_size asked =
    not (list_any (λ z. is_size z && list_all (demand_may_have_size z) asked) (pos 0 ∷ starts_of asked))

-- ---- what is asked of the component at a place, as far as no union and no exception says it (51.8.5)

abbrev pub own_part : Option OneComponent → List Demand
own_part None = []
own_part (Some c) = by_type c.ty ∷ []

-- of one listed component, with its constraint if it has one
abbrev pub part_within : ℕ → AbstractKind → ℕ → Option Constraint → List Demand
part_within i kind j None = []
part_within i kind j (Some c) = if nat_eq j i then by_constraint (kind_at i kind) c ∷ [] else []

abbrev mutual
  pub type_within : ℕ → AbstractType → List Demand
  type_within i (type_of tags kind cons) = own_part (component_at i (components_in kind)) ++ all_within i kind cons

  pub within : ℕ → AbstractKind → Constraint → List Demand
  within i kind (at site e) = element_within i kind e

  pub element_within : ℕ → AbstractKind → Element → List Demand
  element_within i kind (type.contained_subtype t) = type_within i t
  element_within i kind (type.with_components partial ps) = parts_within i kind ps
  element_within i kind (type.intersection cs) = all_within i kind cs
  element_within i kind (type.except c d) = within i kind c
  element_within i kind (type.single_value w) = []
  element_within i kind (type.range low high) = []
  element_within i kind (type.size c) = []
  element_within i kind (type.permitted_alphabet ranges) = []
  element_within i kind (type.with_component c) = []
  element_within i kind (type.union cs) = []
  element_within i kind (type.all_except c) = []

  pub all_within : ℕ → AbstractKind → Constraints → List Demand
  all_within i kind no_constraints = []
  all_within i kind (constraint c cs) = within i kind c ++ all_within i kind cs

  pub parts_within : ℕ → AbstractKind → Parts → List Demand
  parts_within i kind type.no_parts = []
  parts_within i kind (type.part site j word ps) = parts_within i kind ps
  parts_within i kind (type.part_within site j c word ps) = part_within i kind j (Some c) ++ parts_within i kind ps

abbrev pub demand_within : ℕ → Demand → List Demand
demand_within i (by_type t) = type_within i t
demand_within i (by_constraint kind c) = within i kind c

abbrev pub demands_within : ℕ → List Demand → List Demand
demands_within i [] = []
demands_within i (d ∷ ds) = demand_within i d ++ demands_within i ds

-- ---- that nothing meets what is asked

abbrev mutual
  -- No value of this type's kind meets all: no integer, no size, or none in a component that isn't OPTIONAL. Of other
  -- kinds nothing is said.
  pub has_no_value : AbstractType → List Demand → Bool
  has_no_value (type_of tags kind cons) asked = kind_has_no_value kind asked

  pub kind_has_no_value : AbstractKind → List Demand → Bool
  kind_has_no_value type.boolean asked = false
  kind_has_no_value (type.integer names) asked = have_no_number asked
  kind_has_no_value (type.bit_string names) asked = have_no_size asked
  kind_has_no_value type.octet_string asked = have_no_size asked
  kind_has_no_value type.null asked = false
  kind_has_no_value type.object_identifier asked = false
  kind_has_no_value (type.enumerated items) asked = false
  kind_has_no_value (type.characters kind) asked = have_no_size asked
  kind_has_no_value (type.sequence cs) asked = some_has_no_value 0 cs asked
  kind_has_no_value (type.set cs) asked = some_has_no_value 0 cs asked
  kind_has_no_value (type.choice alternatives) asked = false
  kind_has_no_value (type.sequence_of t) asked = have_no_size asked
  kind_has_no_value (type.set_of t) asked = have_no_size asked

  -- of these components, the first of which is at this place
  pub some_has_no_value : ℕ → Components → List Demand → Bool
  some_has_no_value i no_components asked = false
  some_has_no_value i (component name t presence cs) asked =
      (not (may_be_absent presence) && has_no_value t (demands_within i asked)) || some_has_no_value (suc i) cs asked

-- Integers and sizes alone show that no value is a member of both.
abbrev pub is_barren : AbstractType → AbstractType → Bool
is_barren declared t = has_no_value declared (by_type declared ∷ by_type t ∷ [])

abbrev pub barren_under : Option AbstractType → AbstractType → Bool
barren_under None t = false
barren_under (Some declared) t = is_barren declared t

abbrev pub barren_as : AbstractPolicy → Option AbstractRule → Bool
barren_as p None = false
barren_as p (Some r) = barren_under (declared_type p r.message) r.ty

-- the rule of this number, by the declared type of its message
abbrev pub is_barren_rule : AbstractPolicy → ℕ → Bool
is_barren_rule p number = barren_as p (slice_get p.rules number)

-- ---- laws

abbrev pub BarrenShareNothing : Type 0
BarrenShareNothing =
    (declared t : AbstractType) (v : AbstractValue) → IsTrue (is_barren declared t) → IsTrue (is_member declared v)
    → IsTrue (is_member t v) → ⊥

-- said of all integers: where no integer is a member of both
abbrev pub IntegersAreTold : Type 0
IntegersAreTold = (tags : List Tag) (names : List NamedNumber) (cons : Constraints) (t : AbstractType)
    → ((z : ℤ) → IsTrue (is_member (type_of tags (type.integer names) cons) (value.integer z))
    → IsTrue (is_member t (value.integer z)) → ⊥)
    → IsTrue (is_barren (type_of tags (type.integer names) cons) t)
