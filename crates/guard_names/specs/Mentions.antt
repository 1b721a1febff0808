-- The names that an assignment mentions, in the order of its text: names of types, and names that are values. Names of
-- components, alternatives, items, numbers and arcs declare or select something of a type, and mention nothing.
use Rattle.std.specs.Prelude.{ℕ, List, [], ◌∷◌, ◌++◌, Option, Some, None}
use Rattle.std.specs.List.{flat_map}
use Rattle.guard_model.specs.declared.site.Site.{Site}
use Rattle.guard_syntax.specs.declared.tree.SymbolKind.{SymbolKind}
use Rattle.guard_syntax.specs.declared.tree.SymbolKind.TheVariants as symbol
use Rattle.guard_syntax.specs.Trees.{WrittenValue, value_node, WrittenValueForm, boolean, null, integer, text, reference, chosen, list, arcs, WrittenEntries, no_entries, entry, WrittenEndForm, end_integer, end_reference, end_characters, WrittenEnd, WrittenSet, set_node, WrittenSetForm, all_except, union, WrittenUnited, none_united, united, WrittenIntersection, intersection, WrittenMet, none_met, met, WrittenDifference, element_alone, element_except, WrittenElement, element_node, WrittenElementForm, parentheses, value, contained, range, size, from, with_component, with_components, WrittenConstraint, constraint, WrittenParts, no_parts, part, part_in, WrittenOfConstraint, WrittenPresence, mandatory, optional, default, WrittenType, type_node, WrittenBase, plain, numbers, named_bits, enumerated, structure, choice, of_type, named_type, WrittenComponents, no_components, component, components_from, WrittenComponentForm, named, components_of_type, WrittenAlternatives, no_alternatives, alternative, WrittenAssignment}

-- a name that is mentioned, and where
pub record Mention : Type 0 where
  pub site : Site
  pub kind : SymbolKind
  pub name : List ℕ

abbrev pub type_name : Site → List ℕ → List Mention
type_name site name = record { site = site; kind = symbol.Type; name = name } ∷ []

abbrev pub value_name : Site → List ℕ → List Mention
value_name site name = record { site = site; kind = symbol.Value; name = name } ∷ []

-- ---- values: a name alone is that of a value (X.680 14.1), perhaps after the name of an alternative or a component

abbrev mutual
  pub in_value : WrittenValue → List Mention
  in_value (value_node site form) = in_value_form site form

  pub in_value_form : Site → WrittenValueForm → List Mention
  in_value_form site (boolean b) = []
  in_value_form site null = []
  in_value_form site (integer n) = []
  in_value_form site (text kind spelling) = []
  in_value_form site (reference name) = value_name site name
  in_value_form site (chosen name v) = in_value v
  in_value_form site (list es) = in_entries es
  in_value_form site (arcs all) = []

  pub in_entries : WrittenEntries → List Mention
  in_entries no_entries = []
  in_entries (entry site name v es) = in_value v ++ in_entries es

-- ---- sets of values and constraints

abbrev pub in_end_form : Site → WrittenEndForm → List Mention
in_end_form site (end_integer n) = []
in_end_form site (end_reference name) = value_name site name
in_end_form site (end_characters spelling) = []

abbrev pub in_end : Option WrittenEnd → List Mention
in_end None = []
in_end (Some e) = in_end_form e.site e.form

abbrev mutual
  pub in_set : WrittenSet → List Mention
  in_set (set_node site form) = in_set_form form

  pub in_set_form : WrittenSetForm → List Mention
  in_set_form (all_except e) = in_element e
  in_set_form (union first others) = in_intersection first ++ in_united others

  pub in_united : WrittenUnited → List Mention
  in_united none_united = []
  in_united (united mark i others) = in_intersection i ++ in_united others

  pub in_intersection : WrittenIntersection → List Mention
  in_intersection (intersection site first others) = in_difference first ++ in_met others

  pub in_met : WrittenMet → List Mention
  in_met none_met = []
  in_met (met mark d others) = in_difference d ++ in_met others

  pub in_difference : WrittenDifference → List Mention
  in_difference (element_alone site e) = in_element e
  in_difference (element_except site e f) = in_element e ++ in_element f

  pub in_element : WrittenElement → List Mention
  in_element (element_node site form) = in_element_form form

  pub in_element_form : WrittenElementForm → List Mention
  in_element_form (parentheses s) = in_set s
  in_element_form (value v) = in_value v
  in_element_form (contained includes at name) = type_name at name
  in_element_form (range r) = in_end r.low ++ in_end r.high
  in_element_form (size c) = in_constraint c
  in_element_form (from c) = in_constraint c
  in_element_form (with_component c) = in_constraint c
  in_element_form (with_components partial ps) = in_parts ps

  pub in_constraint : WrittenConstraint → List Mention
  in_constraint (constraint site s) = in_set s

  pub in_parts : WrittenParts → List Mention
  in_parts no_parts = []
  in_parts (part site name presence ps) = in_parts ps
  in_parts (part_in site name c presence ps) = in_constraint c ++ in_parts ps

-- in what WITH COMPONENTS says of one component
abbrev pub in_perhaps_constraint : Option WrittenConstraint → List Mention
in_perhaps_constraint None = []
in_perhaps_constraint (Some c) = in_constraint c

-- ---- types

abbrev pub in_of_constraint : Option WrittenOfConstraint → List Mention
in_of_constraint None = []
in_of_constraint (Some c) = in_constraint c.constraint

abbrev pub in_presence : WrittenPresence → List Mention
in_presence mandatory = []
in_presence optional = []
in_presence (default v) = in_value v

abbrev mutual
  pub in_type : WrittenType → List Mention
  in_type (type_node site tags base cons) = in_base base ++ flat_map in_constraint cons

  pub in_base : WrittenBase → List Mention
  in_base (plain p) = []
  in_base (numbers ns) = []
  in_base (named_bits bs) = []
  in_base (enumerated items) = []
  in_base (structure kind cs) = in_components cs
  in_base (choice all) = in_alternatives all
  in_base (of_type kind c t) = in_of_constraint c ++ in_type t
  in_base (named_type site name) = type_name site name

  pub in_components : WrittenComponents → List Mention
  in_components no_components = []
  in_components (component site name t presence cs) = (in_type t ++ in_presence presence) ++ in_components cs
  in_components (components_from site t cs) = in_type t ++ in_components cs

  pub in_alternatives : WrittenAlternatives → List Mention
  in_alternatives no_alternatives = []
  in_alternatives (alternative site name t all) = in_type t ++ in_alternatives all

-- in one entry of a component list
abbrev pub in_component : WrittenComponentForm → List Mention
in_component (named name t presence) = in_type t ++ in_presence presence
in_component (components_of_type t) = in_type t

-- ---- assignments: the type, and then the value

abbrev pub in_perhaps_value : Option WrittenValue → List Mention
in_perhaps_value None = []
in_perhaps_value (Some v) = in_value v

abbrev pub mentions : WrittenAssignment → List Mention
mentions a = in_type a.ty ++ in_perhaps_value a.value
