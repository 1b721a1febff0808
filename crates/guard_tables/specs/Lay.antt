-- The plan of a declared type that asks of its values all that is asked of them: the tests of each node, and below it
-- what they ask of parts.
use Rattle.std.specs.Prelude.{ℕ, suc, pos, Bool, true, false, not, ◌&&◌, List, [], ◌∷◌, ◌++◌, map, Option, Some, None, option_and_then, nat_eq, if◌then◌else◌}
use Rattle.guard_model.specs.declared.tag.Tag.{Tag}
use Rattle.guard_model.specs.AbstractType as type
use Rattle.guard_model.specs.AbstractType.{AbstractType, AbstractKind, AbstractPresence, Components, NamedNumber, type_of, no_components, component}
use Rattle.guard_model.specs.AbstractValue as value
use Rattle.guard_model.specs.AbstractValue.{AbstractValue}
use Rattle.guard_model.specs.Limits.{fits_128_bits}
use Rattle.guard_model.specs.SameBase.{bare_names}
use Rattle.guard_der.specs.Contents.{boolean_octet}
use Rattle.guard_der.specs.Der.{is_constructed, contents_octets}
use Rattle.guard_der.specs.Element.{tagged}
use Rattle.guard_model.specs.NamedLists.{is_item}
use Rattle.guard_eval.specs.Elements.{is_in_some}
use Rattle.guard_eval.specs.Member.{holds}
use Rattle.guard_tables.specs.declared.slots.Slots.{Slots}
use Rattle.guard_tables.specs.Slots.{none, added}
use Rattle.guard_tables.specs.Formulas.{Implication}
use Rattle.guard_tables.specs.Plan as plans
use Rattle.guard_tables.specs.Plan.{AbstractTest, numbers, sizes, stored, AbstractCondition, Side, Plan, Body, Parts, plan, simple, series, set, choice, list, set_of, formula, no_parts, part, asked_of}
use Rattle.guard_tables.specs.Marking.{type_marked}
use Rattle.guard_tables.specs.Demands.{SlotDemand, Atom, scalar, equals, sized, spelled, each, within, sent, unsent, Term}
use Rattle.guard_tables.specs.Forms.{forms_of}
use Rattle.guard_tables.specs.OfParts.{each_of, within_of, terms_at}

-- ---- tests of the value at a node

-- no value passes
abbrev pub no_value : AbstractTest
no_value = numbers (λ z. false)

-- of a set of truth values: whether it has TRUE, and whether FALSE
abbrev pub truth_tests : Bool → Bool → List AbstractTest
truth_tests true true = []
truth_tests true false = stored (boolean_octet true ∷ []) ∷ []
truth_tests false true = stored (boolean_octet false ∷ []) ∷ []
truth_tests false false = no_value ∷ []

-- of a set of values of a scalar kind
abbrev pub scalar_tests : AbstractKind → (AbstractValue → Bool) → List AbstractTest
scalar_tests type.boolean has = truth_tests (has (value.boolean true)) (has (value.boolean false))
scalar_tests (type.integer names) has = numbers (λ z. fits_128_bits z && has (value.integer z)) ∷ []
scalar_tests (type.enumerated items) has =
    numbers (λ z. (fits_128_bits z && is_item z items) && has (value.enumerated z)) ∷ []
scalar_tests type.null has = if has value.null then [] else no_value ∷ []
scalar_tests (type.bit_string names) has = []
scalar_tests type.octet_string has = []
scalar_tests type.object_identifier has = []
scalar_tests (type.characters kind) has = []
scalar_tests (type.sequence cs) has = []
scalar_tests (type.set cs) has = []
scalar_tests (type.choice cs) has = []
scalar_tests (type.sequence_of t) has = []
scalar_tests (type.set_of t) has = []

abbrev pub stored_test : Option (List ℕ) → AbstractTest
stored_test None = no_value
stored_test (Some os) = stored os

abbrev pub tests_of : AbstractKind → Atom → List AbstractTest
tests_of kind (scalar own c) = scalar_tests kind (holds c own)
tests_of kind (equals w) = stored_test (contents_octets kind w) ∷ []
tests_of kind (sized c) = sizes (λ n. fits_128_bits (pos n) && holds c (type.integer []) (value.integer (pos n))) ∷ []
tests_of kind (spelled ranges) = plans.spelled (is_in_some ranges) ∷ []
-- these speak of parts
tests_of kind (each d) = []
tests_of kind (within i d) = []
tests_of kind (sent i) = []
tests_of kind (unsent i) = []

abbrev pub conditions_in : Slots → List AbstractTest → List AbstractCondition
conditions_in k [] = []
conditions_in k (t ∷ ts) = record { slots = k; test = t } ∷ conditions_in k ts

abbrev pub conditions_of : AbstractKind → List Term → List AbstractCondition
conditions_of kind [] = []
conditions_of kind (t ∷ ts) = conditions_in t.slots (tests_of kind t.atom) ++ conditions_of kind ts

-- ---- presence of parts

abbrev pub added_if : Bool → Slots → Slots → Slots
added_if true k m = added m k
added_if false k m = m

-- the slots of those terms of which this holds
abbrev pub slots_where : (Atom → Bool) → List Term → Slots
slots_where test [] = none
slots_where test (t ∷ ts) = added_if (test t.atom) t.slots (slots_where test ts)

-- what the absence of the part at this place fails
abbrev pub is_sent : ℕ → Atom → Bool
is_sent i (sent j) = nat_eq j i
is_sent i (unsent j) = false
is_sent i (each d) = false
is_sent i (within j d) = false
is_sent i (scalar own c) = false
is_sent i (equals w) = false
is_sent i (sized c) = false
is_sent i (spelled ranges) = false

-- What its presence fails. Where only one part is there, as in a CHOICE, its presence is the absence of all others.
abbrev pub is_unsent : Bool → ℕ → Atom → Bool
is_unsent exclusive i (unsent j) = nat_eq j i
is_unsent exclusive i (sent j) = exclusive && not (nat_eq j i)
is_unsent exclusive i (each d) = false
is_unsent exclusive i (within j d) = false
is_unsent exclusive i (scalar own c) = false
is_unsent exclusive i (equals w) = false
is_unsent exclusive i (sized c) = false
is_unsent exclusive i (spelled ranges) = false

abbrev pub absent_of : ℕ → List Term → Slots
absent_of i terms = slots_where (is_sent i) terms

abbrev pub present_of : ℕ → List Term → Slots
present_of i terms = slots_where (is_unsent false i) terms

-- what the choice of the alternative at this place fails
abbrev pub chosen_of : ℕ → List Term → Slots
chosen_of i terms = slots_where (is_unsent true i) terms

-- ---- plans

-- names don't count: of named bits, whether there are some, and of items their numbers
abbrev pub nameless : AbstractKind → AbstractKind
nameless (type.integer names) = type.integer []
nameless (type.bit_string names) = type.bit_string (bare_names names)
nameless (type.enumerated items) =
    type.enumerated (map (λ (n : NamedNumber). record { name = []; number = n.number }) items)
nameless type.boolean = type.boolean
nameless type.octet_string = type.octet_string
nameless type.null = type.null
nameless type.object_identifier = type.object_identifier
nameless (type.characters kind) = type.characters kind
nameless (type.sequence cs) = type.sequence cs
nameless (type.set cs) = type.set cs
nameless (type.choice cs) = type.choice cs
nameless (type.sequence_of t) = type.sequence_of t
nameless (type.set_of t) = type.set_of t

abbrev pub lay_simple : AbstractKind → List Term → Body
lay_simple kind terms = simple (nameless kind) (conditions_of kind terms)

-- of a value's encoding the octets inside the outermost tag; without a tag all of them
abbrev pub inside_octets : List Tag → AbstractKind → AbstractValue → Option (List ℕ)
inside_octets [] kind v = contents_octets kind v
inside_octets (t ∷ ts) kind v = option_and_then (tagged ts (is_constructed kind)) (contents_octets kind v)

abbrev pub default_octets : AbstractType → AbstractValue → Option (List ℕ)
default_octets (type_of tags kind cons) d = inside_octets tags kind d

-- of a component with this plan: a default that isn't sent fails what it fails where it is there
abbrev pub side_for : AbstractType → AbstractPresence → Plan → Slots → Slots → Side
side_for t type.mandatory p absent present = record { absent = None; present = present; default = None }
side_for t type.optional p absent present = record { absent = Some absent; present = present; default = None }
side_for t (type.default d) p absent present =
    record { absent = Some (type_marked t p d present); present = present; default = default_octets t d }
-- no type that is sound has one
side_for t type.pending p absent present = record { absent = None; present = present; default = None }

abbrev pub side_chosen : Slots → Side
side_chosen present = record { absent = None; present = present; default = None }

-- where nothing is implied there is no node for it
abbrev pub implied_of : List Implication → Body → Body
implied_of [] b = b
implied_of (r ∷ rs) b = formula (r ∷ rs) b

abbrev mutual
  pub lay : AbstractType → List SlotDemand → Plan
  lay (type_of tags kind cons) demands =
      plan tags (is_constructed kind) (implied_of (forms_of demands).implications (lay_kind kind (terms_at demands)))

  pub lay_kind : AbstractKind → List Term → Body
  lay_kind (type.sequence cs) terms =
      asked_of (conditions_of (type.sequence cs) terms) (series (lay_parts 0 cs terms))
  lay_kind (type.set cs) terms = asked_of (conditions_of (type.set cs) terms) (set (lay_parts 0 cs terms))
  lay_kind (type.choice cs) terms =
      asked_of (conditions_of (type.choice cs) terms) (choice (lay_alternatives 0 cs terms))
  lay_kind (type.sequence_of t) terms =
      asked_of (conditions_of (type.sequence_of t) terms) (list (lay t (each_of terms)))
  lay_kind (type.set_of t) terms = asked_of (conditions_of (type.set_of t) terms) (set_of (lay t (each_of terms)))
  lay_kind type.boolean terms = lay_simple type.boolean terms
  lay_kind (type.integer names) terms = lay_simple (type.integer names) terms
  lay_kind (type.bit_string names) terms = lay_simple (type.bit_string names) terms
  lay_kind type.octet_string terms = lay_simple type.octet_string terms
  lay_kind type.null terms = lay_simple type.null terms
  lay_kind type.object_identifier terms = lay_simple type.object_identifier terms
  lay_kind (type.enumerated items) terms = lay_simple (type.enumerated items) terms
  lay_kind (type.characters kind) terms = lay_simple (type.characters kind) terms

  -- of these components, the first of which is at this place
  pub lay_parts : ℕ → Components → List Term → Parts
  lay_parts i no_components terms = no_parts
  lay_parts i (component name t presence cs) terms =
      part (side_for t presence (lay t (within_of i terms)) (absent_of i terms) (present_of i terms))
      (lay t (within_of i terms)) (lay_parts (suc i) cs terms)

  pub lay_alternatives : ℕ → Components → List Term → Parts
  lay_alternatives i no_components terms = no_parts
  lay_alternatives i (component name t presence cs) terms =
      part (side_chosen (chosen_of i terms)) (lay t (within_of i terms)) (lay_alternatives (suc i) cs terms)
