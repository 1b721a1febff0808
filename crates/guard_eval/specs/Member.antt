-- Constraints as sets of values (X.680 clauses 49 to 51), and the members of a type.
use Rattle.std.specs.Prelude.{ℕ, zero, suc, Bool, true, false, not, ◌&&◌, ◌||◌, []}
use Rattle.std.specs.Option.{is_none}
use Rattle.guard_model.specs.AbstractType as type
use Rattle.guard_model.specs.AbstractType.{AbstractType, AbstractKind, Components, Constraint, Constraints, Element, Parts, type_of, no_components, component, at, no_constraints, constraint}
use Rattle.guard_model.specs.AbstractValue as value
use Rattle.guard_model.specs.AbstractValue.{AbstractValue, Fields}
use Rattle.guard_model.specs.Components.{components_in, component_at}
use Rattle.guard_model.specs.Same.{same}
use Rattle.guard_der.specs.Fits.{fits_kind}
use Rattle.guard_der.specs.ProperConstraints.{takes_size}
use Rattle.guard_eval.specs.Elements.{has_base, is_between, has_size, is_spelled_in, every_item, has_each}
use Rattle.guard_eval.specs.Presence.{element_kind, kind_at, has_parts, part_at, is_there, if_there, is_placed, first_intruder}

abbrev mutual
  -- A member fits the type, and each constraint holds, of the value itself and of each part: each component that is
  -- there, the chosen alternative, each element.
  pub is_member : AbstractType → AbstractValue → Bool
  is_member (type_of tags kind cons) v = fits_kind kind v && all_hold cons kind v && parts_are_members kind v

  pub parts_are_members : AbstractKind → AbstractValue → Bool
  parts_are_members (type.sequence cs) (value.fields fs) = fields_are_members cs fs
  parts_are_members (type.set cs) (value.fields fs) = fields_are_members cs fs
  parts_are_members (type.choice cs) (value.chosen i v) = chosen_is_member cs i v
  parts_are_members (type.sequence_of t) (value.items vs) = every_item (is_member t) vs
  parts_are_members (type.set_of t) (value.items vs) = every_item (is_member t) vs
  -- these kinds have no parts
  parts_are_members type.boolean v = true
  parts_are_members (type.integer names) v = true
  parts_are_members (type.bit_string names) v = true
  parts_are_members type.octet_string v = true
  parts_are_members type.null v = true
  parts_are_members type.object_identifier v = true
  parts_are_members (type.enumerated items) v = true
  parts_are_members (type.characters k) v = true
  parts_are_members _ _ = false

  -- An absent OPTIONAL component is never tested. A component that is its default has a value though it is not sent.
  pub fields_are_members : Components → Fields → Bool
  fields_are_members (component name t presence cs) (value.present v fs) = is_member t v && fields_are_members cs fs
  fields_are_members (component name t presence cs) (value.absent fs) = fields_are_members cs fs
  fields_are_members no_components value.no_fields = true
  fields_are_members _ _ = false

  -- of the alternative at this place of the written list, from 0
  pub chosen_is_member : Components → ℕ → AbstractValue → Bool
  chosen_is_member no_components i v = false
  chosen_is_member (component name t presence cs) zero v = is_member t v
  chosen_is_member (component name t presence cs) (suc i) v = chosen_is_member cs i v

  -- Whether a constraint on a type of this kind has the value.
  pub holds : Constraint → AbstractKind → AbstractValue → Bool
  holds (at site element) kind v = holds_element element kind v

  -- Each element is a set of values. One that doesn't apply to the value's kind has none.
  pub holds_element : Element → AbstractKind → AbstractValue → Bool
  -- 51.2: this value alone
  holds_element (type.single_value w) kind v = same w v
  -- 51.3: the members of the contained type, which has the same base
  holds_element (type.contained_subtype t) kind v = has_base kind t && is_member t v
  -- 51.4: the integers between the ends
  holds_element (type.range low high) kind v = is_between low high v
  -- 51.5: those whose size is among the integers that the constraint has, where the kind takes SIZE
  holds_element (type.size c) kind v = takes_size kind && has_size (holds c (type.integer [])) v
  -- 51.7: those all of whose characters are permitted
  holds_element (type.permitted_alphabet ranges) kind v = is_spelled_in ranges v
  -- 51.8.4: those each of whose elements the constraint has
  holds_element (type.with_component c) kind v = has_each (holds c (element_kind kind)) v
  -- 51.8.5: those whose listed parts are as the list says, and whose other parts are as a full list says of them
  holds_element (type.with_components partial ps) kind v =
      has_parts v && parts_hold ps partial kind v && is_none (first_intruder partial kind ps v)
  -- 50: sets as in arithmetic
  holds_element (type.union cs) kind v = some_hold cs kind v
  holds_element (type.intersection cs) kind v = all_hold cs kind v
  holds_element (type.except c d) kind v = holds c kind v && not (holds d kind v)
  holds_element (type.all_except c) kind v = not (holds c kind v)

  pub all_hold : Constraints → AbstractKind → AbstractValue → Bool
  all_hold no_constraints kind v = true
  all_hold (constraint c cs) kind v = holds c kind v && all_hold cs kind v

  pub some_hold : Constraints → AbstractKind → AbstractValue → Bool
  some_hold no_constraints kind v = false
  some_hold (constraint c cs) kind v = holds c kind v || some_hold cs kind v

  -- a word is about presence, a constraint about the value that is there (51.8.6 to 51.8.9)
  pub parts_hold : Parts → Bool → AbstractKind → AbstractValue → Bool
  parts_hold type.no_parts partial kind v = true
  parts_hold (type.part site i word ps) partial kind v =
      is_placed partial (component_at i (components_in kind)) word (is_there i v) && parts_hold ps partial kind v
  parts_hold (type.part_within site i c word ps) partial kind v =
      (is_placed partial (component_at i (components_in kind)) word (is_there i v)
      && if_there (holds c (kind_at i kind)) (part_at i v))
      && parts_hold ps partial kind v
