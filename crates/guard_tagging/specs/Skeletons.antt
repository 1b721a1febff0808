-- The type of a definition, where these are the types of the definitions before it in the order of definitions.
use Rattle.std.specs.Prelude.{◌≡◌, ◌↔◌, ℕ, true, List, [], ◌∷◌, Some, slice_get}
use Rattle.guard_model.specs.AbstractType.{AbstractType}
use Rattle.guard_syntax.specs.Trees.{WrittenModule}
use Rattle.guard_names.specs.Declarations.{Definition, definitions}
use Rattle.guard_tagging.specs.declared.fault.TagFault.{TagFault}
use Rattle.guard_tagging.specs.Automatic.{Automatic}
use Rattle.guard_tagging.specs.Surroundings.{surroundings, known_from, nodes_of_all}
use Rattle.guard_tagging.specs.Tagged.{IsTagged, IsFirstFault}
use Rattle.guard_tagging.specs.Types.{Meaning, Surroundings}

-- what is known of the definition of this number: that it has this type, and whether it is a list that is tagged
-- automatically
abbrev pub IsMeaning : List WrittenModule → ℕ → AbstractType → Meaning → Type 0
IsMeaning ms number t m = (m.ty ≡ t) × ((m.is_automatic ≡ true) ↔ Automatic ms number)

-- what is known of the first definitions in an order, of which these are the types
abbrev pub AreMeanings : List WrittenModule → List ℕ → List AbstractType → List Meaning → Type 0
AreMeanings ms [] types known = known ≡ []
AreMeanings ms (number ∷ order) [] known = known ≡ []
AreMeanings ms (number ∷ order) (t ∷ types) [] = ⊥
AreMeanings ms (number ∷ order) (t ∷ types) (m ∷ known) = IsMeaning ms number t m × AreMeanings ms order types known

-- under this the type of a definition is written: the tag default of its module, and what is known of what names mean
-- there
abbrev pub AreSurroundings : List WrittenModule → List ℕ → List AbstractType → Definition → Surroundings → Type 0
AreSurroundings ms order types d around =
    (known : List Meaning) × AreMeanings ms order types known × (around ≡ surroundings ms order known d.home)

-- The definition of this number has this type, of a value its governor.
abbrev pub IsTypeOf : List WrittenModule → List ℕ → List AbstractType → ℕ → AbstractType → Type 0
IsTypeOf ms order types id t =
    (d : Definition) × (slice_get (definitions ms) id ≡ Some d)
    × (around : Surroundings) × AreSurroundings ms order types d around
    × IsTagged around (nodes_of_all types) d.assignment.ty t

-- The written type of the definition of this number has this fault first.
abbrev pub IsFaultOf : List WrittenModule → List ℕ → List AbstractType → ℕ → TagFault → Type 0
IsFaultOf ms order types id fault =
    (d : Definition) × (slice_get (definitions ms) id ≡ Some d)
    × (around : Surroundings) × AreSurroundings ms order types d around
    × IsFirstFault around (nodes_of_all types) d.assignment.ty fault

-- the surroundings of a definition as a function, by going through the definitions in their order
abbrev pub surroundings_of : List WrittenModule → List ℕ → List AbstractType → Definition → Surroundings
surroundings_of ms order types d = surroundings ms order (known_from ms order types) d.home
