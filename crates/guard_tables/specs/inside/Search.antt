-- How a node with too many conditions is looked for: from a type on, to which a way leads, through its parts in written
-- order.
use Rattle.std.specs.Prelude.{ℕ, suc, List, [], ◌∷◌, ◌++◌, Option, Some, None, if◌then◌else◌}
use Rattle.std.specs.Option.{option_or}
use Rattle.guard_model.specs.AbstractType as type
use Rattle.guard_model.specs.AbstractType.{AbstractType, AbstractKind, Components, type_of, no_components, component}
use Rattle.guard_tables.specs.Conditions.{is_crowded}

abbrev mutual
  pub crowded_from : List AbstractType → List ℕ → AbstractType → Option (List ℕ)
  crowded_from types way (type_of tags kind cons) =
      if is_crowded types way then Some way else crowded_inside types way kind

  pub crowded_inside : List AbstractType → List ℕ → AbstractKind → Option (List ℕ)
  crowded_inside types way (type.sequence cs) = crowded_among types way 0 cs
  crowded_inside types way (type.set cs) = crowded_among types way 0 cs
  crowded_inside types way (type.choice cs) = crowded_among types way 0 cs
  crowded_inside types way (type.sequence_of t) = crowded_from types (way ++ 0 ∷ []) t
  crowded_inside types way (type.set_of t) = crowded_from types (way ++ 0 ∷ []) t
  crowded_inside types way type.boolean = None
  crowded_inside types way (type.integer names) = None
  crowded_inside types way (type.bit_string names) = None
  crowded_inside types way type.octet_string = None
  crowded_inside types way type.null = None
  crowded_inside types way type.object_identifier = None
  crowded_inside types way (type.enumerated items) = None
  crowded_inside types way (type.characters kind) = None

  -- of these components, the first of which is at this place
  pub crowded_among : List AbstractType → List ℕ → ℕ → Components → Option (List ℕ)
  crowded_among types way place no_components = None
  crowded_among types way place (component name t presence cs) =
      option_or (crowded_from types (way ++ place ∷ []) t) (crowded_among types way (suc place) cs)

abbrev pub crowded_at : List AbstractType → List ℕ → ℕ → AbstractType → Option (List ℕ)
crowded_at types way place t = crowded_from types (way ++ place ∷ []) t
