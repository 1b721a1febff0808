-- How many components a list of them has, and how many elements.
use Rattle.std.specs.Prelude.{ℕ, suc}
use Rattle.guard_model.specs.AbstractType.{Components, no_components, component}
use Rattle.guard_model.specs.AbstractValue.{Items, no_items, item}

abbrev pub component_count : Components → ℕ
component_count no_components = 0
component_count (component name ty presence others) = suc (component_count others)

abbrev pub item_count : Items → ℕ
item_count no_items = 0
item_count (item v others) = suc (item_count others)
