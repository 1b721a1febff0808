-- Names and numbers of one list, as they are read.
use Rattle.std.specs.Prelude.{ℕ, ℤ, pos, negsuc, Bool, true, false, List, [], ◌∷◌, Option, Some, None, option_map, min, ◌-◌, ◌^◌}
use Rattle.std.specs.List.{list_any}
use Rattle.std.specs.Str.Lossy.{utf8_lossy}
use Rattle.guard_model.specs.declared.site.Site.{Site}
use Rattle.guard_model.specs.TypeView.{OneComponent}
use Rattle.guard_lexer.specs.Items.{number_value}
use Rattle.guard_syntax.specs.Trees.{WrittenNumber, WrittenNamed, WrittenItem}
use Rattle.guard_syntax.specs.Numbers.{signed}
use Rattle.guard_tagging.specs.Faults.{Placed, same_number}

-- the octets of a name as text
unfoldable pub text_octets : List ℕ → List ℕ
text_octets name = utf8_lossy name

-- a number that is read no further than 128 bits
abbrev pub near_number : WrittenNumber → ℤ
near_number n = signed n.minus (min (number_value n.digits) (2 ^ 128 - 1))

-- the integer of a key
abbrev pub signed_key : Bool × ℕ → ℤ
signed_key (false, n) = pos n
signed_key (true, n) = negsuc n

abbrev pub same_key : Option (Bool × ℕ) → Option (Bool × ℕ) → Bool
same_key a b = same_number (option_map signed_key a) (option_map signed_key b)

abbrev pub has_number : List (Bool × ℕ) → Option (Bool × ℕ) → Bool
has_number keys number = list_any (λ k. same_key number (Some k)) keys

-- the components, each at its site
abbrev pub read_places : List Site → List OneComponent → List Placed
read_places [] cs = []
read_places (site ∷ sites) [] = []
read_places (site ∷ sites) (c ∷ cs) = record { site = site; name = c.name; number = None } ∷ read_places sites cs

abbrev pub named_place : WrittenNamed → Placed
named_place n = record { site = n.site; name = n.name; number = Some (near_number n.number) }

abbrev pub item_place : WrittenItem → Placed
item_place i = record { site = i.site; name = i.name; number = option_map near_number i.number }
