-- What kept messages and rules represent: each type is in the table of its message.
use Rattle.std.specs.Prelude.{List, [], option_and_then, unwrap_or, slice_get, string_bytes, Option}
use Rattle.std.specs.Arc.{arc_value}
use Rattle.guard_model.specs.AbstractType.{AbstractType, type_of, null, no_constraints}
use Rattle.guard_tables.specs.TableView.{declared_of, rules_of}
use Rattle.guard_policy.specs.declared.kept.KeptMessage.{KeptMessage}
use Rattle.guard_policy.specs.declared.kept.KeptRule.{KeptRule}
use Rattle.guard_policy.specs.declared.kept.TypePlace.{TypePlace}
use Rattle.guard_policy.specs.Policies.{AbstractMessage, AbstractRule}

abbrev pub kept_message_view : KeptMessage → AbstractMessage
kept_message_view m = record { name = string_bytes m.name; home = string_bytes m.home; ty = declared_of (arc_value m.table) }

-- The type at a place; none where the place is none of a table.
abbrev pub found_type : List KeptMessage → TypePlace → Option AbstractType
found_type messages place =
    option_and_then (λ m. slice_get (rules_of (arc_value m.table)) place.rule) (slice_get messages place.message)

-- a type that isn't sound, in the place of one that isn't found
abbrev pub no_type : AbstractType
no_type = type_of [] null no_constraints

abbrev pub kept_rule_view : List KeptMessage → KeptRule → AbstractRule
kept_rule_view messages r = record {
  name = string_bytes r.name;
  effect = r.effect;
  from = string_bytes r.from;
  to = string_bytes r.to;
  message = string_bytes r.message;
  home = string_bytes r.home;
  type_name = string_bytes r.type_name;
  ty = unwrap_or (found_type messages r.ty) no_type;
}
