-- The nodes of a type are the type itself and its parts at any depth. A way leads to one by the positions of components
-- and alternatives in their written lists, from 0; all elements of an OF type are its part 0.
use Rattle.std.specs.Prelude.{ℕ, suc, List, [], ◌∷◌, ◌++◌, map}
use Rattle.guard_model.specs.AbstractType as type
use Rattle.guard_model.specs.AbstractType.{AbstractType, AbstractKind, Components, type_of, no_components, component}

abbrev mutual
  -- the ways to all of them, the empty one to the type itself first
  pub ways : AbstractType → List (List ℕ)
  ways (type_of tags kind cons) = [] ∷ ways_inside kind

  pub ways_inside : AbstractKind → List (List ℕ)
  ways_inside (type.sequence cs) = ways_among 0 cs
  ways_inside (type.set cs) = ways_among 0 cs
  ways_inside (type.choice cs) = ways_among 0 cs
  ways_inside (type.sequence_of t) = map (λ way. 0 ∷ way) (ways t)
  ways_inside (type.set_of t) = map (λ way. 0 ∷ way) (ways t)
  ways_inside type.boolean = []
  ways_inside (type.integer names) = []
  ways_inside (type.bit_string names) = []
  ways_inside type.octet_string = []
  ways_inside type.null = []
  ways_inside type.object_identifier = []
  ways_inside (type.enumerated items) = []
  ways_inside (type.characters kind) = []

  -- through these components, the first of which is at this place
  pub ways_among : ℕ → Components → List (List ℕ)
  ways_among place no_components = []
  ways_among place (component name t presence cs) = map (λ way. place ∷ way) (ways t) ++ ways_among (suc place) cs
