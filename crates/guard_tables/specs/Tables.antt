-- Why the types of a message and its rules make no table.
use Rattle.std.specs.Prelude.{ℕ, suc, Bool, ◌&&◌, nat_le, List, [], ◌∷◌, map, length, Option, Some, None, option_map, if◌then◌else◌}
use Rattle.std.specs.Borrow.{Bor}
use Rattle.std.specs.Option.{option_or}
use Rattle.std.specs.Cmp.Lexicographic.{pointwise}
use Rattle.guard_model.specs.AbstractType.{AbstractType, type_of}
use Rattle.guard_model.specs.SameType.{same_base}
use Rattle.guard_model.specs.Tags.{same_tag}
use Rattle.guard_model.specs.TypeView.{type_view}
use Rattle.guard_model.specs.declared.tag.Tag.{Tag}
use Rattle.guard_model.specs.declared.ty.Ty.{Ty}
use Rattle.guard_tables.specs.declared.fault.TableFault.{TableFault}
use Rattle.guard_tables.specs.declared.fault.TableFault.TheVariants.{RuleTypeMismatch, TooManyConditions, TooManyRules, OutOfMemory}
use Rattle.guard_tables.specs.Conditions.{has_crowded_node}

-- of one message
abbrev pub most_rules : ℕ
most_rules = 255

abbrev pub types_view : List (Bor Ty) → List AbstractType
types_view rules = map (λ t. type_view t.now) rules

abbrev pub tags_of : AbstractType → List Tag
tags_of (type_of tags kind cons) = tags

-- A rule's type has the declared type's tags, and its base: `same_base` of `guard_model` holds of types with the same
-- base alone.
abbrev pub is_match : AbstractType → AbstractType → Bool
is_match declared rule = pointwise same_tag (tags_of declared) (tags_of rule) && same_base declared rule

-- the place of the first of the rules, which begin with this place, whose type isn't one for the declared type
abbrev pub first_mismatch : AbstractType → ℕ → List AbstractType → Option ℕ
first_mismatch declared place [] = None
first_mismatch declared place (t ∷ ts) =
    if is_match declared t then first_mismatch declared (suc place) ts else Some place

abbrev pub crowding : Bool → Option TableFault
crowding crowded = if crowded then Some TooManyConditions else None

-- Why the types make no table: too many rules; the first rule with another type; too many conditions of all types at
-- a node.
abbrev pub first_fault : AbstractType → List AbstractType → Option TableFault
first_fault declared rules =
    if nat_le (length rules) most_rules
    then option_or (option_map (λ place. RuleTypeMismatch place) (first_mismatch declared 0 rules))
    (crowding (has_crowded_node (declared ∷ rules) declared))
    else Some TooManyRules

-- a refusal names a fault, unless memory ran out
abbrev pub named : TableFault → Option TableFault
named OutOfMemory = None
named fault = Some fault
