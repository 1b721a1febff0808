-- The part of a value that a path names, and the type of that part.
use Rattle.std.specs.Prelude.{ℕ, zero, suc, List, [], ◌∷◌, Option, Some, None, option_and_then, option_map}
use Rattle.guard_model.specs.declared.site.Step.{Step}
use Rattle.guard_model.specs.declared.site.Step.TheVariants.{Component, Element}
use Rattle.guard_model.specs.AbstractType.{AbstractType}
use Rattle.guard_model.specs.AbstractValue as value
use Rattle.guard_model.specs.AbstractValue.{AbstractValue, Items}
use Rattle.guard_eval.specs.Presence.{part_at}
use Rattle.guard_report.specs.declared.layout.Layout.TheVariants.{Line}
use Rattle.guard_report.specs.Text.{type_within}
use Rattle.guard_report.specs.ValueText.{value_octets}

abbrev pub item_at : ℕ → Items → Option AbstractValue
item_at i value.no_items = None
item_at zero (value.item v vs) = Some v
item_at (suc i) (value.item v vs) = item_at i vs

-- the element at this place, from 0; only lists have elements
abbrev pub element_at : ℕ → AbstractValue → Option AbstractValue
element_at i (value.items vs) = item_at i vs
element_at i _ = None

-- One step further in. A component that is left out isn't there, nor is an alternative that isn't the chosen one.
abbrev pub value_within : AbstractValue → Step → Option AbstractValue
value_within v (Component i) = part_at i v
value_within v (Element i) = element_at i v

abbrev pub value_at : List Step → AbstractValue → Option AbstractValue
value_at [] v = Some v
value_at (step ∷ steps) v = option_and_then (value_at steps) (value_within v step)

-- the type of the part there, if it is known
abbrev pub type_at : List Step → Option AbstractType → Option AbstractType
type_at [] t = t
type_at (step ∷ steps) t = type_at steps (type_within t step)

-- how the part is written, on one line
abbrev pub part_octets : AbstractType → AbstractValue → List Step → Option (List ℕ)
part_octets t v path = option_map (value_octets Line (type_at path (Some t))) (value_at path v)
