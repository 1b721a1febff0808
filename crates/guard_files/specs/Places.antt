-- Where the constraints of a type are written.
use Rattle.std.specs.Prelude.{List, [], ◌∷◌}
use Rattle.guard_model.specs.declared.site.Site.{Site}
use Rattle.guard_model.specs.AbstractType.{AbstractType, Constraints, type_of, at, no_constraints, constraint}

abbrev pub places_in : Constraints → List Site
places_in no_constraints = []
places_in (constraint (at site element) cs) = site ∷ places_in cs

-- where the constraints on a whole value of the type are written, those of a referenced type before the added ones
abbrev pub places_of : AbstractType → List Site
places_of (type_of tags kind cs) = places_in cs
