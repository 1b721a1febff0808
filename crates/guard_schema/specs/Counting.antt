-- How much a schema holds, and its limit.
use Rattle.std.specs.Prelude.{ℕ, suc, ◌+◌, List, [], ◌∷◌, Option, Some, None}
use Rattle.guard_model.specs.AbstractType as type
use Rattle.guard_model.specs.AbstractType.{AbstractType, AbstractKind, AbstractPresence, Components, Constraint}
use Rattle.guard_model.specs.AbstractType.{Constraints, Element, Parts, type_of}
use Rattle.guard_model.specs.AbstractValue as value
use Rattle.guard_model.specs.AbstractValue.{AbstractValue, Fields, Items}
use Rattle.guard_tagging.specs.Faults.{nodes}
use Rattle.guard_schema.specs.Known.{Built}

-- ---- S3: constraints, values, and contained types with the types that they are made of

abbrev mutual
  -- a value, and those inside it; a component that is left out is none, one that has its default is one
  pub value_nodes : AbstractValue → ℕ
  value_nodes (value.fields fs) = suc (nodes_of_fields fs)
  value_nodes (value.items vs) = suc (nodes_of_items vs)
  value_nodes (value.chosen i v) = suc (value_nodes v)
  value_nodes (value.boolean b) = 1
  value_nodes (value.integer n) = 1
  value_nodes (value.enumerated n) = 1
  value_nodes value.null = 1
  value_nodes (value.bit_string os unused) = 1
  value_nodes (value.octet_string os) = 1
  value_nodes (value.object_identifier arcs) = 1
  value_nodes (value.characters cs) = 1

  pub nodes_of_fields : Fields → ℕ
  nodes_of_fields value.no_fields = 0
  nodes_of_fields (value.present v fs) = value_nodes v + nodes_of_fields fs
  nodes_of_fields (value.absent fs) = nodes_of_fields fs

  pub nodes_of_items : Items → ℕ
  nodes_of_items value.no_items = 0
  nodes_of_items (value.item v vs) = value_nodes v + nodes_of_items vs

abbrev pub nodes_of_presence : AbstractPresence → ℕ
nodes_of_presence type.mandatory = 0
nodes_of_presence type.optional = 0
nodes_of_presence type.pending = 0
nodes_of_presence (type.default v) = value_nodes v

abbrev mutual
  -- what a type holds beside types: its own constraints, those of its parts, and its defaults
  pub held : AbstractType → ℕ
  held (type_of tags kind cons) = held_in_kind kind + constraint_nodes cons

  pub held_in_kind : AbstractKind → ℕ
  held_in_kind (type.sequence cs) = held_in_components cs
  held_in_kind (type.set cs) = held_in_components cs
  held_in_kind (type.choice cs) = held_in_components cs
  held_in_kind (type.sequence_of t) = held t
  held_in_kind (type.set_of t) = held t
  held_in_kind type.boolean = 0
  held_in_kind (type.integer ns) = 0
  held_in_kind (type.bit_string ns) = 0
  held_in_kind type.octet_string = 0
  held_in_kind type.null = 0
  held_in_kind type.object_identifier = 0
  held_in_kind (type.enumerated ns) = 0
  held_in_kind (type.characters c) = 0

  pub held_in_components : Components → ℕ
  held_in_components type.no_components = 0
  held_in_components (type.component name t presence cs) = (held t + nodes_of_presence presence) + held_in_components cs

  pub constraint_nodes : Constraints → ℕ
  constraint_nodes type.no_constraints = 0
  constraint_nodes (type.constraint c cs) = nodes_of_constraint c + constraint_nodes cs

  pub nodes_of_constraint : Constraint → ℕ
  nodes_of_constraint (type.at site e) = suc (nodes_of_element e)

  pub nodes_of_element : Element → ℕ
  nodes_of_element (type.single_value v) = value_nodes v
  -- a contained type counts with its types and all that it holds
  nodes_of_element (type.contained_subtype t) = nodes t + held t
  nodes_of_element (type.range low high) = 0
  nodes_of_element (type.size c) = nodes_of_constraint c
  nodes_of_element (type.permitted_alphabet ranges) = 0
  nodes_of_element (type.with_component c) = nodes_of_constraint c
  nodes_of_element (type.with_components partial ps) = nodes_of_parts ps
  nodes_of_element (type.union cs) = constraint_nodes cs
  nodes_of_element (type.intersection cs) = constraint_nodes cs
  nodes_of_element (type.except c d) = nodes_of_constraint c + nodes_of_constraint d
  nodes_of_element (type.all_except c) = nodes_of_constraint c

  pub nodes_of_parts : Parts → ℕ
  nodes_of_parts type.no_parts = 0
  nodes_of_parts (type.part site i word ps) = nodes_of_parts ps
  nodes_of_parts (type.part_within site i c word ps) = nodes_of_constraint c + nodes_of_parts ps

abbrev pub nodes_of_value : Option AbstractValue → ℕ
nodes_of_value None = 0
nodes_of_value (Some v) = value_nodes v

abbrev pub held_by : Built → ℕ
held_by b = held b.ty + nodes_of_value b.value

abbrev pub all_held : List Built → ℕ
all_held [] = 0
all_held (b ∷ bs) = held_by b + all_held bs

abbrev pub most_held : ℕ
most_held = 100000
