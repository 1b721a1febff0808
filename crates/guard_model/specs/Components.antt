-- The components of a SEQUENCE or SET and the alternatives of a CHOICE, by their places.
use Rattle.std.specs.Prelude.{ℕ, zero, suc, Option, Some, None}
use Rattle.guard_model.specs.AbstractType as type
use Rattle.guard_model.specs.AbstractType.{AbstractKind, Components, no_components, component}
use Rattle.guard_model.specs.TypeView.{OneComponent}

-- the components or alternatives of a kind; kinds other than SEQUENCE, SET and CHOICE have none
abbrev pub components_in : AbstractKind → Components
components_in (type.sequence cs) = cs
components_in (type.set cs) = cs
components_in (type.choice cs) = cs
components_in _ = no_components

-- the component at this place of the written list, from 0; None where the list ends before it
abbrev pub component_at : ℕ → Components → Option OneComponent
component_at i no_components = None
component_at zero (component name ty presence others) = Some (record { name = name; ty = ty; presence = presence })
component_at (suc i) (component name ty presence others) = component_at i others
