-- Named numbers, named bits and items, as they are read.
use Rattle.std.specs.Prelude.{ℕ, suc, ℤ, pos, not, List, [], ◌∷◌, ◌++◌, length, Option, Some, None, Result, Ok, Err, if◌then◌else◌}
use Rattle.guard_model.specs.declared.site.Site.{Site}
use Rattle.guard_model.specs.AbstractType.{NamedNumber}
use Rattle.guard_model.specs.Answer.{◌>>=◌}
use Rattle.guard_model.specs.Limits.{fits_128_bits}
use Rattle.guard_syntax.specs.Trees.{WrittenNumber, WrittenNamed, WrittenItem}
use Rattle.guard_tagging.specs.declared.fault.TagFault.{TagFault}
use Rattle.guard_tagging.specs.declared.fault.TagFault.TheVariants.{NumberTooLarge}
use Rattle.guard_model.specs.inside.Each.{each}
use Rattle.guard_tagging.specs.Faults.{fault_where, is_bit}
use Rattle.guard_tagging.specs.Named.{allowed}
use Rattle.guard_syntax.specs.Numbers.{number_of}
use Rattle.std.specs.Option.{option_or}
use Rattle.guard_tagging.specs.Enumerations.{free_from}
use Rattle.guard_tagging.specs.inside.ReadNames.{text_octets}

-- the integer that is written, where it is one of 128 bits
abbrev pub read_integer : WrittenNumber → Option ℤ
read_integer n = if fits_128_bits (number_of n) then Some (number_of n) else None

abbrev pub number_result : Site → Option ℤ → Result ℤ TagFault
number_result site None = Err (NumberTooLarge site)
number_result site (Some z) = Ok z

-- the number of the item or named number with the name there
abbrev pub read_at : Site → WrittenNumber → Result ℤ TagFault
read_at site n = number_result site (read_integer n)

abbrev pub numbered_name : List ℕ → ℤ → NamedNumber
numbered_name name z = record { name = text_octets name; number = z }

abbrev pub read_named : WrittenNamed → Result NamedNumber TagFault
read_named n = read_at n.site n.number >>= λ z. Ok (numbered_name n.name z)

-- ---- named bits: first whether each number is one of a bit

abbrev pub bits_fault : List WrittenNamed → Option TagFault
bits_fault [] = None
bits_fault (b ∷ bs) =
    option_or (fault_where (not (is_bit (number_of b.number))) (NumberTooLarge b.site)) (bits_fault bs)

unfoldable pub read_bits : List WrittenNamed → Result (List NamedNumber) TagFault
read_bits bs = allowed (bits_fault bs) >>= λ _. each read_named bs

-- ---- items: first the numbers that are written, then the number of each

abbrev pub own_number : Site → Option WrittenNumber → Result (Option ℤ) TagFault
own_number site None = Ok None
own_number site (Some n) = read_at site n >>= λ z. Ok (Some z)

abbrev pub read_own : WrittenItem → Result (Option ℤ) TagFault
read_own i = own_number i.site i.number

abbrev pub option_list : Option ℤ → List ℤ
option_list None = []
option_list (Some z) = z ∷ []

unfoldable pub read_written : List ℤ → List WrittenItem → Result (List ℤ) TagFault
read_written front [] = Ok front
read_written front (i ∷ items) = read_own i >>= λ own. read_written (front ++ option_list own) items

-- an item's number, and the least that the next one without a number can have
abbrev pub read_number : List ℤ → ℕ → ℕ → Site → Option WrittenNumber → Result (ℤ × ℕ) TagFault
read_number taken tries next site None = Ok (pos (free_from taken tries next), suc (free_from taken tries next))
read_number taken tries next site (Some n) = read_at site n >>= λ z. Ok (z, next)

-- an item with its number
abbrev pub read_item : List ℤ → ℕ → ℕ → WrittenItem → Result (NamedNumber × ℕ) TagFault
read_item taken tries next i =
    read_number taken tries next i.site i.number >>= λ one. Ok (numbered_name i.name one.0, one.1)

unfoldable pub read_numbered : List ℤ → ℕ → ℕ → List NamedNumber → List WrittenItem → Result (List NamedNumber) TagFault
read_numbered taken tries next front [] = Ok front
read_numbered taken tries next front (i ∷ items) =
    read_item taken tries next i >>= λ one. read_numbered taken tries one.1 (front ++ one.0 ∷ []) items

unfoldable pub read_items : List WrittenItem → Result (List NamedNumber) TagFault
read_items items = read_written [] items >>= λ taken. read_numbered taken (length items) 0 [] items
