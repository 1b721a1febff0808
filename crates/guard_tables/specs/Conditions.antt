-- What types ask of a value, node by node.
use Rattle.std.specs.Prelude.{ℕ, zero, suc, ◌+◌, Bool, not, min, nat_le, nat_eq, List, [], ◌∷◌, Option, if◌then◌else◌}
use Rattle.std.specs.List.{list_any, find}
use Rattle.guard_model.specs.AbstractType as type
use Rattle.guard_model.specs.AbstractType.{AbstractType, AbstractKind, Components, Constraint, Constraints, Element, Parts, type_of, no_components, component, at, no_constraints, constraint}
use Rattle.guard_tables.specs.Nodes.{ways}

-- of one node of a table
abbrev pub most_conditions : ℕ
most_conditions = 256

-- 1 where the way ends
abbrev pub here : List ℕ → ℕ
here [] = 1
here (place ∷ way) = 0

-- what is counted at the place to which the way leads next, and this number where the way ends
abbrev pub inside : ℕ → (ℕ → List ℕ → ℕ) → List ℕ → ℕ
inside ends count [] = ends
inside ends count (place ∷ way) = count place way

-- The conditions that each lays on the node at the end of the way: a type lays one on each of its parts, and a
-- constraint one on the part of which it speaks (X.680 clauses 49 to 51).
abbrev mutual
  pub of_type : AbstractType → List ℕ → ℕ
  of_type (type_of tags kind cons) way = of_kind kind way + of_constraints cons way

  pub of_kind : AbstractKind → List ℕ → ℕ
  of_kind (type.sequence cs) way = inside 1 (of_component cs) way
  of_kind (type.set cs) way = inside 1 (of_component cs) way
  of_kind (type.choice cs) way = inside 1 (of_component cs) way
  of_kind (type.sequence_of t) way = inside 1 (λ place. of_type t) way
  of_kind (type.set_of t) way = inside 1 (λ place. of_type t) way
  of_kind type.boolean way = here way
  of_kind (type.integer names) way = here way
  of_kind (type.bit_string names) way = here way
  of_kind type.octet_string way = here way
  of_kind type.null way = here way
  of_kind type.object_identifier way = here way
  of_kind (type.enumerated items) way = here way
  of_kind (type.characters kind) way = here way

  -- of the component or alternative at this place
  pub of_component : Components → ℕ → List ℕ → ℕ
  of_component no_components place way = 0
  of_component (component name t presence cs) zero way = of_type t way
  of_component (component name t presence cs) (suc place) way = of_component cs place way

  pub of_constraints : Constraints → List ℕ → ℕ
  of_constraints no_constraints way = 0
  of_constraints (constraint c cs) way = of_constraint c way + of_constraints cs way

  -- one for the constraint itself, and those of what is in it
  pub of_constraint : Constraint → List ℕ → ℕ
  of_constraint (at site element) way = here way + of_element element way

  pub of_element : Element → List ℕ → ℕ
  -- 51.3: the nodes are parts of the contained type too
  of_element (type.contained_subtype t) way = of_type t way
  -- 51.8.4: the subject is the element
  of_element (type.with_component c) way = inside 0 (λ place. of_constraint c) way
  -- 51.8.5: the subject of each is the component or alternative at its place
  of_element (type.with_components partial ps) way = inside 0 (of_parts ps) way
  -- 50: of one subject
  of_element (type.union cs) way = of_constraints cs way
  of_element (type.intersection cs) way = of_constraints cs way
  of_element (type.except c d) way = of_constraint c way + of_constraint d way
  of_element (type.all_except c) way = of_constraint c way
  -- 51.5: what is in SIZE speaks of a number and isn't counted
  of_element (type.size c) way = 0
  -- 51.2, 51.4, 51.7: nothing is inside
  of_element (type.single_value v) way = 0
  of_element (type.range low high) way = 0
  of_element (type.permitted_alphabet ranges) way = 0

  -- of those that speak of the part at this place
  pub of_parts : Parts → ℕ → List ℕ → ℕ
  of_parts type.no_parts place way = 0
  of_parts (type.part site at_place word ps) place way = of_parts ps place way
  of_parts (type.part_within site at_place c word ps) place way =
      (if nat_eq at_place place then of_constraint c way else 0) + of_parts ps place way

-- of several types
abbrev pub conditions : List AbstractType → List ℕ → ℕ
conditions [] way = 0
conditions (t ∷ ts) way = of_type t way + conditions ts way

abbrev pub is_crowded : List AbstractType → List ℕ → Bool
is_crowded types way = not (nat_le (conditions types way) most_conditions)

-- at some node of the type
abbrev pub has_crowded_node : List AbstractType → AbstractType → Bool
has_crowded_node types t = list_any (is_crowded types) (ways t)

-- the way to the first such node, where a type comes before its parts, and these in written order
abbrev pub crowded_node : List AbstractType → AbstractType → Option (List ℕ)
crowded_node types t = find (is_crowded types) (ways t)

-- as a usize of 64 bits holds it: so many, but never more than its greatest number
abbrev pub counted : ℕ → ℕ
counted n = min n 18446744073709551615
