-- What names of types mean in a module, where some definitions are built, those before one in the order of definitions.
use Rattle.std.specs.Prelude.{ℕ, ◌+◌, Bool, false, List, [], ◌∷◌, ◌++◌, Option, Some, None, slice_get}
use Rattle.guard_model.specs.AbstractType.{AbstractType}
use Rattle.guard_syntax.specs.declared.tree.TagDefault.{TagDefault}
use Rattle.guard_syntax.specs.declared.tree.TagDefault.TheVariants as by_default
use Rattle.guard_syntax.specs.Trees.{WrittenModule}
use Rattle.guard_names.specs.Declarations.{Definition, definitions}
use Rattle.guard_names.specs.Places.{known_meant}
use Rattle.guard_tagging.specs.Faults.{nodes}
use Rattle.guard_tagging.specs.Types.{Meaning, Surroundings, is_automatic}

-- where no tag default is written it is EXPLICIT TAGS (X.680 13.2)
abbrev pub tag_default_of : Option TagDefault → TagDefault
tag_default_of None = by_default.Explicit
tag_default_of (Some default) = default

-- What a type is written under is its own module's: the tag default, and what its names mean, where `known` is what is
-- known of the first definitions in the order.
abbrev pub surroundings : List WrittenModule → List ℕ → List Meaning → WrittenModule → Surroundings
surroundings ms order known home = record {
  tag_default = tag_default_of home.tag_default;
  meaning = λ name. known_meant ms order known home.name name;
}

-- whether the type of a definition is found to be a list that is tagged automatically, by what is known
abbrev pub is_automatic_definition : List WrittenModule → List ℕ → List Meaning → Option Definition → Bool
is_automatic_definition ms order known None = false
is_automatic_definition ms order known (Some d) = is_automatic (surroundings ms order known d.home) d.assignment.ty

abbrev pub meaning_at : List WrittenModule → List ℕ → List Meaning → ℕ → AbstractType → Meaning
meaning_at ms order known number t = record {
  ty = t;
  is_automatic = is_automatic_definition ms order known (slice_get (definitions ms) number);
}

-- what is known with the definitions that follow in the order, of which these are the types
abbrev pub known_after : List WrittenModule → List ℕ → List Meaning → List ℕ → List AbstractType → List Meaning
known_after ms order known [] types = known
known_after ms order known (number ∷ rest) [] = known
known_after ms order known (number ∷ rest) (t ∷ types) =
    known_after ms order (known ++ meaning_at ms order known number t ∷ []) rest types

-- what is known where these are the types of the first definitions in the order: found by going through them, and as a
-- law says what `AreMeanings` asks for
abbrev pub known_from : List WrittenModule → List ℕ → List AbstractType → List Meaning
known_from ms order types = known_after ms order [] order types

-- how many types they are made of
abbrev pub nodes_of_all : List AbstractType → ℕ
nodes_of_all [] = 0
nodes_of_all (t ∷ types) = nodes t + nodes_of_all types
