-- What is compared of two types: the whole, or what their bases are compared in, which is all but named numbers of
-- INTEGER, names of bits and sites.
use Rattle.std.specs.Prelude.{ℕ, Bool, true, false, ◌&&◌, List, [], map, Option, Some, None, nat_eq}
use Rattle.std.specs.Str.{bytes_eq}
use Rattle.guard_model.specs.AbstractType.{AbstractType, AbstractKind, Components, Constraint, Constraints, Element, NamedNumber, Parts, type_of, boolean, integer, bit_string, octet_string, null, object_identifier, enumerated, characters, sequence, set, choice, sequence_of, set_of, no_components, component, at, no_constraints, constraint, single_value, contained_subtype, range, permitted_alphabet, size, with_component, with_components, union, intersection, except, all_except, no_parts, part, part_within}
use Rattle.guard_model.specs.SameBase.{bare_names, no_site}
use Rattle.guard_model.specs.SameType.{same_constraint, same_presence, same_site, same_type, same_word}
use Rattle.guard_model.specs.TypeView.{OneComponent, OnePart, component_view, components_of, constraint_view, constraints_of, part_view, parts_of}
use Rattle.guard_model.specs.declared.site.Site.{Site}
use Rattle.guard_model.specs.declared.ty.Comp.{Comp}
use Rattle.guard_model.specs.declared.ty.Cons.{Cons}
use Rattle.guard_model.specs.declared.ty.Part.{Part}

abbrev pub names_compared : Bool → List NamedNumber → List NamedNumber
names_compared true names = names
names_compared false names = []

abbrev pub bits_compared : Bool → List NamedNumber → List NamedNumber
bits_compared true names = names
bits_compared false names = bare_names names

abbrev pub site_compared : Bool → Site → Site
site_compared true site = site
site_compared false site = no_site

abbrev mutual
  pub compared : Bool → AbstractType → AbstractType
  compared whole (type_of tags kind constraints) =
      type_of tags (kind_compared whole kind) (constraints_compared whole constraints)

  pub kind_compared : Bool → AbstractKind → AbstractKind
  kind_compared whole boolean = boolean
  kind_compared whole (integer names) = integer (names_compared whole names)
  kind_compared whole (bit_string names) = bit_string (bits_compared whole names)
  kind_compared whole octet_string = octet_string
  kind_compared whole null = null
  kind_compared whole object_identifier = object_identifier
  kind_compared whole (enumerated items) = enumerated items
  kind_compared whole (characters kind) = characters kind
  kind_compared whole (sequence components) = sequence (components_compared whole components)
  kind_compared whole (set components) = set (components_compared whole components)
  kind_compared whole (choice alternatives) = choice (components_compared whole alternatives)
  kind_compared whole (sequence_of element) = sequence_of (compared whole element)
  kind_compared whole (set_of element) = set_of (compared whole element)

  pub components_compared : Bool → Components → Components
  components_compared whole no_components = no_components
  components_compared whole (component name ty presence rest) =
      component name (compared whole ty) presence (components_compared whole rest)

  pub constraints_compared : Bool → Constraints → Constraints
  constraints_compared whole no_constraints = no_constraints
  constraints_compared whole (constraint c rest) = constraint (constraint_compared whole c) (constraints_compared whole rest)

  pub constraint_compared : Bool → Constraint → Constraint
  constraint_compared whole (at site element) = at (site_compared whole site) (element_compared whole element)

  pub element_compared : Bool → Element → Element
  element_compared whole (single_value v) = single_value v
  element_compared whole (contained_subtype ty) = contained_subtype (compared whole ty)
  element_compared whole (range low high) = range low high
  element_compared whole (size c) = size (constraint_compared whole c)
  element_compared whole (permitted_alphabet ranges) = permitted_alphabet ranges
  element_compared whole (with_component c) = with_component (constraint_compared whole c)
  element_compared whole (with_components partial parts) = with_components partial (parts_compared whole parts)
  element_compared whole (union cs) = union (constraints_compared whole cs)
  element_compared whole (intersection cs) = intersection (constraints_compared whole cs)
  element_compared whole (except c d) = except (constraint_compared whole c) (constraint_compared whole d)
  element_compared whole (all_except c) = all_except (constraint_compared whole c)

  pub parts_compared : Bool → Parts → Parts
  parts_compared whole no_parts = no_parts
  parts_compared whole (part site place word rest) =
      part (site_compared whole site) place word (parts_compared whole rest)
  parts_compared whole (part_within site place c word rest) =
      part_within (site_compared whole site) place (constraint_compared whole c) word (parts_compared whole rest)

-- ---- of lists of the code

abbrev pub components_in_view : Bool → List Comp → Components
components_in_view whole comps = components_compared whole (components_of (map component_view comps))

abbrev pub constraints_in_view : Bool → List Cons → Constraints
constraints_in_view whole constraints = constraints_compared whole (constraints_of (map constraint_view constraints))

abbrev pub parts_in_view : Bool → List Part → Parts
parts_in_view whole parts = parts_compared whole (parts_of (map part_view parts))

-- ---- of one component or alternative, and of one part of WITH COMPONENTS

abbrev pub same_component : Bool → OneComponent → OneComponent → Bool
same_component whole c d =
    bytes_eq c.name d.name && (same_type (compared whole c.ty) (compared whole d.ty) && same_presence c.presence d.presence)

abbrev pub same_within : Bool → Option Constraint → Option Constraint → Bool
same_within whole None None = true
same_within whole (Some c) (Some d) = same_constraint (constraint_compared whole c) (constraint_compared whole d)
same_within whole None (Some d) = false
same_within whole (Some c) None = false

abbrev pub same_part : Bool → OnePart → OnePart → Bool
same_part whole p q =
    same_site (site_compared whole p.site) (site_compared whole q.site)
    && (nat_eq p.place q.place && (same_within whole p.within q.within && same_word p.word q.word))
