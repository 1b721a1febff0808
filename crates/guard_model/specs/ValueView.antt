-- The abstract value of a value of the code.
use Rattle.std.specs.Prelude.{List, map, Option, Some, None, chars}
use Rattle.std.specs.Arc.{arc_slice_items, arc_str_bytes, arc_value}
use Rattle.std.specs.Global.{Global}
use Rattle.std.specs.declared.sync.Arc.{Arc}
use Rattle.guard_model.specs.AbstractValue as abstract
use Rattle.guard_model.specs.AbstractValue.{AbstractValue, Fields, Items, fields_of, items_of}
use Rattle.guard_model.specs.declared.value.Value.{Value, fold-Value}
use Rattle.guard_model.specs.declared.value.Value.TheOpen.{Value-F}

-- the abstract value of one level of a value whose parts are abstract values already
abbrev pub value_step : Value-F AbstractValue → AbstractValue
value_step (Value-F.Bool b) = abstract.boolean b
value_step (Value-F.Int z) = abstract.integer z
value_step (Value-F.Enumerated z) = abstract.enumerated z
value_step Value-F.Null = abstract.null
value_step (Value-F.Bits b) = abstract.bit_string (arc_slice_items b.octets) b.unused
value_step (Value-F.Octets v) = abstract.octet_string (arc_slice_items v)
value_step (Value-F.Oid v) = abstract.object_identifier (arc_slice_items v)
value_step (Value-F.Chars s) = abstract.characters (chars (arc_str_bytes s))
value_step (Value-F.Fields v) = abstract.fields (fields_of (map arc_value (arc_slice_items v)))
value_step (Value-F.Items v) = abstract.items (items_of (arc_slice_items v))
value_step (Value-F.Chosen n b) = abstract.chosen n (arc_value b)

abbrev pub value_view : Value → AbstractValue
value_view = fold-Value AbstractValue value_step

-- of a value that is shared
abbrev pub shared_view : Arc Value Global → AbstractValue
shared_view v = value_view (arc_value v)

abbrev pub field_view : Option Value → Option AbstractValue
field_view None = None
field_view (Some v) = Some (value_view v)

-- what a slot holds
abbrev pub slot_view : Arc (Option Value) Global → Option AbstractValue
slot_view s = field_view (arc_value s)

abbrev pub fields_view : List (Arc (Option Value) Global) → Fields
fields_view slots = fields_of (map slot_view slots)

abbrev pub items_view : List Value → Items
items_view vs = items_of (map value_view vs)
