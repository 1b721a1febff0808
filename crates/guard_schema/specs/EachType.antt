-- Each type of a schema, by the definition that assigns it: it is the type that the definition's tree denotes by its
-- tags, with the constraints and defaults of that tree filled in. All names mean what the schema makes of them.
use Rattle.std.specs.Prelude.{◌≡◌, ℕ, List, [], All, Contains, Some, None, Ok}
use Rattle.guard_model.specs.AbstractType.{AbstractType}
use Rattle.guard_names.specs.Declarations.{Definition, definitions}
use Rattle.guard_tagging.specs.Types.{Surroundings, denoted}
use Rattle.guard_schema.specs.Texts.{ReadsTexts}
use Rattle.guard_schema.specs.Known.{Known, IsSoundBuilt, visible, IsWrittenUnder}
use Rattle.guard_schema.specs.Finishing.{Finishes}
use Rattle.guard_schema.specs.Schemas.{AbstractSchema, schema_of}
use Rattle.guard_schema.specs.Accepts.{OrdersNames, Accepts}
use Rattle.guard_schema.specs.Unfinished.{unfinished}

-- The type is this definition's, where all of these are built.
pub record IsFinished (whole : Known) (d : Definition) (t : AbstractType) : Type 0 where
  -- the surroundings under which its tree is written
  pub surroundings : Surroundings
  pub under : IsWrittenUnder whole d surroundings
  -- what its tree denotes by its tags, with the constraints and defaults of the tree filled in
  pub finished : Finishes (visible whole d.home.name) d.assignment.ty (denoted surroundings d.assignment.ty) (Ok t)
  -- with these taken off again, and its defaults not known, it is what its tree denotes by its tags
  pub again : unfinished (visible whole d.home.name) d.assignment.ty t ≡ denoted surroundings d.assignment.ty

-- The schema has the types of the definitions in these texts, and no others.
pub record HasTypesOf (texts : List (List ℕ)) (s : AbstractSchema) : Type 0 where
  -- the modules that the texts are, and what is built of all their definitions
  pub whole : Known
  pub read : ReadsTexts [] texts (Ok whole.modules)
  pub ordered : OrdersNames whole.modules (Ok whole.order)
  pub schema : s ≡ schema_of whole
  -- each type is sound, and each value that is assigned is one of its type
  pub sound : All IsSoundBuilt whole.built
  -- each definition that assigns a type has its finished type in the schema, by its two names
  pub each : (d : Definition) → Contains (definitions whole.modules) d → d.assignment.value ≡ None
      → (t : AbstractType) × (s.types d.home.name d.assignment.name ≡ Some t) × IsFinished whole d t
  -- and each type of the schema is that of a definition
  pub only : (home name : List ℕ) (t : AbstractType) → s.types home name ≡ Some t
      → (d : Definition) × Contains (definitions whole.modules) d × (d.home.name ≡ home) × (d.assignment.name ≡ name)
      × (d.assignment.value ≡ None) × IsFinished whole d t

-- So it is with every schema that texts denote.
abbrev pub HaveTheirTypes : Type 0
HaveTheirTypes = (texts : List (List ℕ)) (s : AbstractSchema) → Accepts texts s → HasTypesOf texts s
