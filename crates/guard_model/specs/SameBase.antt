-- Types of the same base: equal kinds without the outermost tags and constraints. Parts inside are equal in name, tags,
-- presence, default and constraints. Named numbers of an INTEGER and sites never count. Of named bits it counts only
-- whether there are any, since then a value has no trailing zero bit. The items of an ENUMERATED count, in written
-- order and with their numbers.
use Rattle.std.specs.Prelude.{◌≡◌, List, [], ◌∷◌, pos}
use Rattle.guard_model.specs.AbstractType.{AbstractType, AbstractKind, Components, Constraint, Constraints, Element, NamedNumber, Parts, type_of, boolean, integer, bit_string, octet_string, null, object_identifier, enumerated, characters, sequence, set, choice, sequence_of, set_of, no_components, component, at, no_constraints, constraint, single_value, contained_subtype, range, permitted_alphabet, size, with_component, with_components, union, intersection, except, all_except, no_parts, part, part_within}
use Rattle.guard_model.specs.declared.site.Site.{Site}

-- the same for all, so that no site counts
abbrev pub no_site : Site
no_site = record { text = 0; line = 0; column = 0 }

-- whether there are named bits, and nothing else of them
abbrev pub bare_names : List NamedNumber → List NamedNumber
bare_names [] = []
bare_names (n ∷ ns) = record { name = []; number = pos 0 } ∷ []

abbrev mutual
  -- the type without named numbers of INTEGER, names of bits and sites, at any depth
  pub bare : AbstractType → AbstractType
  bare (type_of tags kind constraints) = type_of tags (bare_kind kind) (bare_constraints constraints)

  pub bare_kind : AbstractKind → AbstractKind
  bare_kind boolean = boolean
  bare_kind (integer names) = integer []
  bare_kind (bit_string names) = bit_string (bare_names names)
  bare_kind octet_string = octet_string
  bare_kind null = null
  bare_kind object_identifier = object_identifier
  bare_kind (enumerated items) = enumerated items
  bare_kind (characters kind) = characters kind
  bare_kind (sequence components) = sequence (bare_components components)
  bare_kind (set components) = set (bare_components components)
  bare_kind (choice alternatives) = choice (bare_components alternatives)
  bare_kind (sequence_of element) = sequence_of (bare element)
  bare_kind (set_of element) = set_of (bare element)

  pub bare_components : Components → Components
  bare_components no_components = no_components
  bare_components (component name ty presence rest) = component name (bare ty) presence (bare_components rest)

  pub bare_constraints : Constraints → Constraints
  bare_constraints no_constraints = no_constraints
  bare_constraints (constraint c rest) = constraint (bare_constraint c) (bare_constraints rest)

  pub bare_constraint : Constraint → Constraint
  bare_constraint (at site element) = at no_site (bare_element element)

  pub bare_element : Element → Element
  bare_element (single_value v) = single_value v
  bare_element (contained_subtype ty) = contained_subtype (bare ty)
  bare_element (range low high) = range low high
  bare_element (size c) = size (bare_constraint c)
  bare_element (permitted_alphabet ranges) = permitted_alphabet ranges
  bare_element (with_component c) = with_component (bare_constraint c)
  bare_element (with_components partial parts) = with_components partial (bare_parts parts)
  bare_element (union cs) = union (bare_constraints cs)
  bare_element (intersection cs) = intersection (bare_constraints cs)
  bare_element (except c d) = except (bare_constraint c) (bare_constraint d)
  bare_element (all_except c) = all_except (bare_constraint c)

  pub bare_parts : Parts → Parts
  bare_parts no_parts = no_parts
  bare_parts (part site place word rest) = part no_site place word (bare_parts rest)
  bare_parts (part_within site place c word rest) = part_within no_site place (bare_constraint c) word (bare_parts rest)

-- what is left of a type without its outermost tags and constraints
abbrev pub bare_kind_of : AbstractType → AbstractKind
bare_kind_of (type_of _ kind _) = bare_kind kind

abbrev pub HasSameBase : AbstractType → AbstractType → Type 0
HasSameBase a b = bare_kind_of a ≡ bare_kind_of b
