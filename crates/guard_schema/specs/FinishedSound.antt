-- A finished type is sound: its tags, lists and nesting, its defaults and all constraints, those of the types that it
-- refers to among them. Only a value that is too long keeps those from being lawful under other tags (V8), and that is
-- looked for where a type is referred to.
use Rattle.std.specs.Prelude.{All, IsTrue, Ok}
use Rattle.guard_model.specs.AbstractType.{AbstractType}
use Rattle.guard_tagcheck.specs.Distinct.{Distinct}
use Rattle.guard_der.specs.Sound.{is_sound}
use Rattle.guard_names.specs.Declarations.{Definition}
use Rattle.guard_tagging.specs.Surroundings.{nodes_of_all}
use Rattle.guard_tagging.specs.Tagged.{IsTagged}
use Rattle.guard_tagging.specs.Types.{Surroundings}
use Rattle.guard_schema.specs.Known.{Known, IsSoundBuilt, types_of, visible, IsWrittenUnder}
use Rattle.guard_schema.specs.Finishing.{Finishes}

-- So it is with the type of a definition, where all that is built before it is sound, and neither its tags nor those of
-- its parts have a fault.
abbrev pub AreSound : Type 0
AreSound =
    (k : Known) (d : Definition) (surroundings : Surroundings) (bare t : AbstractType)
    → IsWrittenUnder k d surroundings → All IsSoundBuilt k.built
    → IsTagged surroundings (nodes_of_all (types_of k.built)) d.assignment.ty bare → Distinct bare
    → Finishes (visible k d.home.name) d.assignment.ty bare (Ok t) → IsTrue (is_sound t)
