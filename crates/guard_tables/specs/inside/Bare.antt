-- A node with nothing asked of it and nothing said of it.
use Rattle.std.specs.Prelude.{ℕ, ℤ, pos, ◌≡◌, Bool, false, [], Option, Some, None}
use Rattle.guard_tables.specs.declared.new_nodes.Group.{Group}
use Rattle.guard_tables.specs.declared.new_nodes.Group.TheVariants as group
use Rattle.guard_tables.specs.declared.new_nodes.Elements.{Elements}
use Rattle.guard_tables.specs.declared.new_nodes.Elements.TheVariants as elements
use Rattle.guard_tables.specs.declared.identifiers.Identifiers.{Identifiers}
use Rattle.guard_tables.specs.declared.node.Hot.{Hot}
use Rattle.guard_tables.specs.declared.node.Cold.{Cold}
use Rattle.guard_tables.specs.declared.node.Kind.{Kind}
use Rattle.guard_tables.specs.declared.node.Kind.TheVariants as kind
use Rattle.guard_tables.specs.declared.node.Need.TheVariants as need
use Rattle.guard_tables.specs.declared.slots.Slots.{Slots}
use Rattle.guard_tables.specs.Slots.{none}

abbrev pub kind_of_group : Group → Kind
kind_of_group group.Series = kind.Series
kind_of_group group.Set = kind.Set
kind_of_group group.Choice = kind.Choice

abbrev pub kind_of_elements : Elements → Kind
kind_of_elements elements.List = kind.List
kind_of_elements elements.SetOf = kind.SetOf

-- no number is plain there
abbrev pub bare_hot : Kind → Identifiers → Bool → ℕ → ℕ → Hot
bare_hot kind ids asked first count = record {
  identifier = ids.own;
  other = ids.other;
  kind = kind;
  need = need.Mandatory;
  watched = false;
  asked = asked;
  ascending = false;
  low = pos 1;
  high = pos 0;
  first = first;
  count = count;
}

-- with other numbers that are plain
abbrev pub plain_hot : Hot → ℤ → ℤ → Hot
plain_hot h low high = record {
  identifier = h.identifier;
  other = h.other;
  kind = h.kind;
  need = h.need;
  watched = h.watched;
  asked = h.asked;
  ascending = h.ascending;
  low = low;
  high = high;
  first = h.first;
  count = h.count;
}

-- that says of its parts whether they ascend
abbrev pub told_hot : Hot → Bool → Hot
told_hot h ascending = record {
  identifier = h.identifier;
  other = h.other;
  kind = h.kind;
  need = h.need;
  watched = h.watched;
  asked = h.asked;
  ascending = ascending;
  low = h.low;
  high = h.high;
  first = h.first;
  count = h.count;
}

pub record IsBare (c : Cold) : Type 0 where
  pub tag : c.tag ≡ None
  pub items : c.items ≡ []
  pub conditions : c.conditions.list.items ≡ []
  pub present : c.present ≡ none
  pub default : c.default ≡ None
  pub implications : c.implications.items ≡ []

-- where there are none, the empty set
abbrev pub slots_of : Option Slots → Slots
slots_of None = none
slots_of (Some slots) = slots
