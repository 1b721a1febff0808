-- What is compared of a type where the whole counts, and where it doesn't.
use Rattle.std.proofs.Common.{◌≡◌, true, false, refl, ap}
use Rattle.guard_model.specs.AbstractType.{AbstractType, AbstractKind, Components, Constraint, Constraints, Element, Parts, type_of, boolean, integer, bit_string, octet_string, null, object_identifier, enumerated, characters, sequence, set, choice, sequence_of, set_of, no_components, component, at, no_constraints, constraint, single_value, contained_subtype, range, size, permitted_alphabet, with_component, with_components, union, intersection, except, all_except, no_parts, part, part_within}
use Rattle.guard_model.specs.SameBase.{bare, bare_kind, bare_components, bare_constraints, bare_constraint, bare_element, bare_parts, no_site}
use Rattle.guard_model.specs.inside.Compared.{compared, kind_compared, components_compared, constraints_compared, constraint_compared, element_compared, parts_compared}

-- all of it
mutual
  pub whole_type : (t : AbstractType) → compared true t ≡ t
  whole_type (type_of tags kind cons) = λ i. type_of tags (whole_kind kind i) (whole_constraints cons i)

  whole_kind : (k : AbstractKind) → kind_compared true k ≡ k
  whole_kind boolean = refl
  whole_kind octet_string = refl
  whole_kind null = refl
  whole_kind object_identifier = refl
  whole_kind (integer names) = refl
  whole_kind (bit_string names) = refl
  whole_kind (enumerated items) = refl
  whole_kind (characters kind) = refl
  whole_kind (sequence cs) = ap sequence (whole_components cs)
  whole_kind (set cs) = ap set (whole_components cs)
  whole_kind (choice cs) = ap choice (whole_components cs)
  whole_kind (sequence_of t) = ap sequence_of (whole_type t)
  whole_kind (set_of t) = ap set_of (whole_type t)

  whole_components : (cs : Components) → components_compared true cs ≡ cs
  whole_components no_components = refl
  whole_components (component name t presence cs) = λ i. component name (whole_type t i) presence (whole_components cs i)

  whole_constraints : (cs : Constraints) → constraints_compared true cs ≡ cs
  whole_constraints no_constraints = refl
  whole_constraints (constraint c cs) = λ i. constraint (whole_constraint c i) (whole_constraints cs i)

  whole_constraint : (c : Constraint) → constraint_compared true c ≡ c
  whole_constraint (at site e) = λ i. at site (whole_element e i)

  whole_element : (e : Element) → element_compared true e ≡ e
  whole_element (single_value v) = refl
  whole_element (contained_subtype t) = ap contained_subtype (whole_type t)
  whole_element (range low high) = refl
  whole_element (size c) = ap size (whole_constraint c)
  whole_element (permitted_alphabet ranges) = refl
  whole_element (with_component c) = ap with_component (whole_constraint c)
  whole_element (with_components partial ps) = λ i. with_components partial (whole_parts ps i)
  whole_element (union cs) = ap union (whole_constraints cs)
  whole_element (intersection cs) = ap intersection (whole_constraints cs)
  whole_element (except c d) = λ i. except (whole_constraint c i) (whole_constraint d i)
  whole_element (all_except c) = ap all_except (whole_constraint c)

  whole_parts : (ps : Parts) → parts_compared true ps ≡ ps
  whole_parts no_parts = refl
  whole_parts (part site place word ps) = λ i. part site place word (whole_parts ps i)
  whole_parts (part_within site place c word ps) = λ i. part_within site place (whole_constraint c i) word (whole_parts ps i)

-- what bases are compared in
mutual
  base_type : (t : AbstractType) → compared false t ≡ bare t
  base_type (type_of tags kind cons) = λ i. type_of tags (base_kind kind i) (base_constraints cons i)

  pub base_kind : (k : AbstractKind) → kind_compared false k ≡ bare_kind k
  base_kind boolean = refl
  base_kind octet_string = refl
  base_kind null = refl
  base_kind object_identifier = refl
  base_kind (integer names) = refl
  base_kind (bit_string names) = refl
  base_kind (enumerated items) = refl
  base_kind (characters kind) = refl
  base_kind (sequence cs) = ap sequence (base_components cs)
  base_kind (set cs) = ap set (base_components cs)
  base_kind (choice cs) = ap choice (base_components cs)
  base_kind (sequence_of t) = ap sequence_of (base_type t)
  base_kind (set_of t) = ap set_of (base_type t)

  base_components : (cs : Components) → components_compared false cs ≡ bare_components cs
  base_components no_components = refl
  base_components (component name t presence cs) = λ i. component name (base_type t i) presence (base_components cs i)

  base_constraints : (cs : Constraints) → constraints_compared false cs ≡ bare_constraints cs
  base_constraints no_constraints = refl
  base_constraints (constraint c cs) = λ i. constraint (base_constraint c i) (base_constraints cs i)

  base_constraint : (c : Constraint) → constraint_compared false c ≡ bare_constraint c
  base_constraint (at site e) = λ i. at no_site (base_element e i)

  base_element : (e : Element) → element_compared false e ≡ bare_element e
  base_element (single_value v) = refl
  base_element (contained_subtype t) = ap contained_subtype (base_type t)
  base_element (range low high) = refl
  base_element (size c) = ap size (base_constraint c)
  base_element (permitted_alphabet ranges) = refl
  base_element (with_component c) = ap with_component (base_constraint c)
  base_element (with_components partial ps) = λ i. with_components partial (base_parts ps i)
  base_element (union cs) = ap union (base_constraints cs)
  base_element (intersection cs) = ap intersection (base_constraints cs)
  base_element (except c d) = λ i. except (base_constraint c i) (base_constraint d i)
  base_element (all_except c) = ap all_except (base_constraint c)

  base_parts : (ps : Parts) → parts_compared false ps ≡ bare_parts ps
  base_parts no_parts = refl
  base_parts (part site place word ps) = λ i. part no_site place word (base_parts ps i)
  base_parts (part_within site place c word ps) = λ i. part_within no_site place (base_constraint c i) word (base_parts ps i)
