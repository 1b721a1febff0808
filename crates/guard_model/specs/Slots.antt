-- The values of the components of a SEQUENCE or SET, before any of them is known.
use Rattle.guard_model.specs.AbstractType.{Components, no_components, component}
use Rattle.guard_model.specs.AbstractValue.{Fields, no_fields, absent}

-- one place for each component, each of them absent
abbrev pub all_absent : Components → Fields
all_absent no_components = no_fields
all_absent (component name t presence rest) = absent (all_absent rest)
