-- Named numbers and items as they are read are those of the definition, or the first number that is too large is
-- refused.
use Rattle.std.proofs.Common.{◌≡◌, Bool, true, false, cond, not, ℕ, suc, ◌^◌, ◌-◌, List, [], ◌∷◌, ◌++◌, length, map, Option, Some, None, Result, Ok, refl, sym, ap, ◌∙◌, append_assoc, arith}
use Rattle.std.specs.Prelude.{ℤ, pos, negsuc, min, IfSome, IsUtf8, option_map}
use Rattle.std.specs.Option.{option_or}
use Rattle.std.proofs.lemmas.Bool.Decides.{nat_tests}
use Rattle.std.proofs.lemmas.List.{append-nil}
use Rattle.std.proofs.lemmas.Str.{utf8_lossy-IsUtf8}
use Rattle.guard_model.specs.Limits.{fits_128_bits}
use Rattle.guard_model.specs.Answer.{◌>>=◌}
use Rattle.guard_model.specs.inside.Each.{each}
use Rattle.guard_model.specs.AbstractType.{NamedNumber}
use Rattle.guard_model.specs.declared.site.Site.{Site}
use Rattle.guard_lexer.specs.Items.{number_value}
use Rattle.guard_syntax.specs.Trees.{WrittenNumber, WrittenNamed, WrittenItem}
use Rattle.guard_tagging.specs.declared.fault.TagFault.{TagFault}
use Rattle.guard_tagging.specs.declared.fault.TagFault.TheVariants.{NumberTooLarge}
use Rattle.guard_tagging.specs.Enumerations.{written_number, written_numbers, free_from, given_number, next_number, numbered_from, numbered, named_number}
use Rattle.guard_tagging.specs.Faults as faults
use Rattle.guard_tagging.specs.Faults.{fault_where, is_bit, first_outside, number_too_large}
use Rattle.guard_tagging.specs.Named.{unless, allowed}
use Rattle.guard_syntax.specs.Numbers.{signed, number_of}
use Rattle.guard_tagging.specs.inside.ReadItems.{number_result, read_at, numbered_name, read_named, bits_fault, read_bits, own_number, option_list, read_written, read_number, read_numbered, read_items}
use Rattle.guard_tagging.specs.inside.ReadNames as reading
use Rattle.guard_tagging.specs.inside.ReadNames.{text_octets, near_number}
use Rattle.guard_tagging.specs.Spelled.{IsShort, AreNamed, AreItems}

pub text_is : (name : List ℕ) → IsUtf8 name → text_octets name ≡ name
unfolding text_octets
text_is name h = utf8_lossy-IsUtf8 name h

-- ---- places

near_is : (n : WrittenNumber) → IsShort n → near_number n ≡ number_of n
near_is n h =
    let e : min (number_value n.digits) (2 ^ 128 - 1) ≡ number_value n.digits =
    omega (arith, h) in ap (signed n.minus) e

pub named_places_are : (ns : List WrittenNamed) → AreNamed ns → map reading.named_place ns ≡ map faults.named_place ns
named_places_are [] h = refl
named_places_are (n ∷ ns) h =
    λ i. record { site = n.site; name = n.name; number = Some (near_is n.number h.1 i) } ∷ named_places_are ns h.2 i

near_or_none : (n : Option WrittenNumber) → IfSome n IsShort → option_map near_number n ≡ option_map number_of n
near_or_none None h = refl
near_or_none (Some n) h = ap Some (near_is n h)

pub item_places_are : (items : List WrittenItem) → AreItems items
    → map reading.item_place items ≡ map faults.item_place items
item_places_are [] h = refl
item_places_are (i ∷ items) h =
    λ j. record { site = i.site; name = i.name; number = near_or_none i.number h.1 j } ∷ item_places_are items h.2 j

-- ---- named numbers

one_named : (fits : Bool) (z : ℤ) (site : Site) (name : List ℕ) (rest : Option TagFault)
    (next : Result (List NamedNumber) TagFault) (ns : List NamedNumber) → next ≡ unless rest ns
    → ((number_result site (cond fits (Some z) None) >>= λ z. Ok (numbered_name name z)) >>= λ one. next >>= λ more.
    Ok (one ∷ more))
    ≡ unless (option_or (fault_where (not fits) (NumberTooLarge site)) rest) (numbered_name name z ∷ ns)
one_named false z site name rest next ns e = refl
one_named true z site name None next ns e =
    ap (λ (r : Result (List NamedNumber) TagFault). r >>= λ more. Ok (numbered_name name z ∷ more)) e
one_named true z site name (Some f) next ns e =
    ap (λ (r : Result (List NamedNumber) TagFault). r >>= λ more. Ok (numbered_name name z ∷ more)) e

pub named_read : (ns : List WrittenNamed) → AreNamed ns
    → each read_named ns ≡ unless (number_too_large (map faults.named_place ns)) (map named_number ns)
unfolding each
named_read [] h = refl
named_read (n ∷ ns) h =
    one_named (fits_128_bits (number_of n.number)) (number_of n.number) n.site n.name
    (number_too_large (map faults.named_place ns)) (each read_named ns) (map named_number ns) (named_read ns h.2)
    ∙ ap (λ (name : List ℕ). unless (number_too_large (map faults.named_place (n ∷ ns)))
    (record { name = name; number = number_of n.number } ∷ map named_number ns)) (text_is n.name h.0)

-- ---- named bits

no_bit_outside : (n : ℤ) → fits_128_bits n ≡ false → is_bit n ≡ false
no_bit_outside (pos n) h = grind (arith, nat_tests)
no_bit_outside (negsuc n) h = refl

pub bits_fault_is : (bs : List WrittenNamed) → bits_fault bs ≡ first_outside is_bit (map faults.named_place bs)
bits_fault_is [] = refl
bits_fault_is (b ∷ bs) =
    ap (option_or (fault_where (not (is_bit (number_of b.number))) (NumberTooLarge b.site))) (bits_fault_is bs)

-- a number of a bit is one of 128 bits
none_outside : (fits bit : Bool) (site : Site) (a b : Option TagFault) → (fits ≡ false → bit ≡ false)
    → (b ≡ None → a ≡ None) → option_or (fault_where (not bit) (NumberTooLarge site)) b ≡ None
    → option_or (fault_where (not fits) (NumberTooLarge site)) a ≡ None
none_outside fits false site a b h rest e = absurd cc
none_outside false true site a b h rest e = absurd (let k : true ≡ false = h refl in cc)
none_outside true true site a b h rest e = rest e

bits_fit : (bs : List WrittenNamed) → bits_fault bs ≡ None → number_too_large (map faults.named_place bs) ≡ None
bits_fit [] e = refl
bits_fit (b ∷ bs) e =
    none_outside (fits_128_bits (number_of b.number)) (is_bit (number_of b.number)) b.site
    (number_too_large (map faults.named_place bs)) (bits_fault bs) (no_bit_outside (number_of b.number)) (bits_fit bs) e

bits_by : (bs : List WrittenNamed) (f : Option TagFault) → bits_fault bs ≡ f → AreNamed bs
    → (allowed f >>= λ _. each read_named bs) ≡ unless f (map named_number bs)
bits_by bs None e h = named_read bs h ∙ ap (λ (f : Option TagFault). unless f (map named_number bs)) (bits_fit bs e)
bits_by bs (Some f) e h = refl

pub bits_read : (bs : List WrittenNamed) → AreNamed bs
    → read_bits bs ≡ unless (first_outside is_bit (map faults.named_place bs)) (map named_number bs)
unfolding read_bits
bits_read bs h =
    bits_by bs (bits_fault bs) refl h ∙ ap (λ (f : Option TagFault). unless f (map named_number bs)) (bits_fault_is bs)

-- ---- items

one_written : (fits : Bool) (z : ℤ) (site : Site) (front : List ℤ) (rest : Option TagFault)
    (next : List ℤ → Result (List ℤ) TagFault) (all : List ℤ) → next (front ++ z ∷ []) ≡ unless rest all
    → ((number_result site (cond fits (Some z) None) >>= λ z. Ok (Some z)) >>= λ own. next (front ++ option_list own))
    ≡ unless (option_or (fault_where (not fits) (NumberTooLarge site)) rest) all
one_written false z site front rest next all e = refl
one_written true z site front rest next all e = e

-- the first item, over the others
written_by : (site : Site) (n : Option WrittenNumber) (front : List ℤ) (items : List WrittenItem)
    → ((front : List ℤ) → read_written front items
    ≡ unless (number_too_large (map faults.item_place items)) (front ++ written_numbers items))
    → (own_number site n >>= λ own. read_written (front ++ option_list own) items)
    ≡ unless (option_or (fault_where (faults.is_outside fits_128_bits (option_map number_of n)) (NumberTooLarge site))
    (number_too_large (map faults.item_place items))) (front ++ (written_number n ++ written_numbers items))
written_by site None front items others = ap (λ (xs : List ℤ). read_written xs items) (append-nil front) ∙ others front
written_by site (Some n) front items others =
    one_written (fits_128_bits (number_of n)) (number_of n) site front (number_too_large (map faults.item_place items))
    (λ xs. read_written xs items) (front ++ (number_of n ∷ written_numbers items))
    (others (front ++ number_of n ∷ []) ∙ ap (unless (number_too_large
    (map faults.item_place items))) (append_assoc front (number_of n ∷ []) (written_numbers items)))

pub written_read : (front : List ℤ) (items : List WrittenItem)
    → read_written front items ≡ unless (number_too_large (map faults.item_place items)) (front
    ++ written_numbers items)
unfolding read_written
written_read front [] = ap Ok (sym (append-nil front))
written_read front (i ∷ items) = written_by i.site i.number front items (λ xs. written_read xs items)

-- where none is too large
fits_by : (fits : Bool) (z : ℤ) (site : Site) (rest : Option TagFault)
    → option_or (fault_where (not fits) (NumberTooLarge site)) rest ≡ None
    → (number_result site (cond fits (Some z) None) ≡ Ok z) × (rest ≡ None)
fits_by false z site rest h = absurd cc
fits_by true z site rest h = (refl, h)

fits_here : (n : WrittenNumber) (site : Site) (rest : Option TagFault)
    → option_or (fault_where (not (fits_128_bits (number_of n))) (NumberTooLarge site)) rest ≡ None
    → (read_at site n ≡ Ok (number_of n)) × (rest ≡ None)
fits_here n site rest h = fits_by (fits_128_bits (number_of n)) (number_of n) site rest h

abbrev as_item : List ℕ → ℤ × ℕ → Result (NamedNumber × ℕ) TagFault
as_item name one = Ok (numbered_name name one.0, one.1)

abbrev with_next : ℕ → ℤ → Result (ℤ × ℕ) TagFault
with_next next z = Ok (z, next)

given_by : (written : List ℤ) (tries next : ℕ) (front : List NamedNumber) (site : Site) (name : List ℕ)
    (n : Option WrittenNumber) (items : List WrittenItem) → IsUtf8 name
    → option_or (fault_where (faults.is_outside fits_128_bits (option_map number_of n)) (NumberTooLarge site))
    (number_too_large (map faults.item_place items)) ≡ None
    → ((next : ℕ) (front : List NamedNumber) → number_too_large (map faults.item_place items) ≡ None
    → read_numbered written tries next front items ≡ Ok (front ++ numbered_from written tries next items))
    → ((read_number written tries next site n >>= as_item name) >>= λ one.
    read_numbered written tries one.1 (front ++ one.0 ∷ []) items)
    ≡ Ok (front ++ record { name = name; number = given_number written tries next n }
    ∷ numbered_from written tries (next_number written tries next n) items)
given_by written tries next front site name None items utf8 e others =
    let free = free_from written tries next in
    others (suc free) (front ++ numbered_name name (pos free) ∷ []) e
    ∙ ap Ok (append_assoc front (numbered_name name (pos free) ∷ []) (numbered_from written tries (suc free) items)
    ∙ ap (λ (text : List ℕ). front
    ++ record { name = text; number = pos free } ∷ numbered_from written tries (suc free) items) (text_is name utf8))
given_by written tries next front site name (Some n) items utf8 e others =
    let p = fits_here n site (number_too_large (map faults.item_place items)) e in
    ap (λ (r : Result ℤ TagFault). ((r >>= with_next next) >>= as_item name) >>= λ one.
    read_numbered written tries one.1 (front ++ one.0 ∷ []) items) p.0
    ∙ others next (front ++ numbered_name name (number_of n) ∷ []) p.1
    ∙ ap Ok (append_assoc front (numbered_name name (number_of n) ∷ []) (numbered_from written tries next items)
    ∙ ap (λ (text : List ℕ). front
    ++ record { name = text; number = number_of n } ∷ numbered_from written tries next items) (text_is name utf8))

pub numbers_given : (written : List ℤ) (tries next : ℕ) (front : List NamedNumber) (items : List WrittenItem)
    → AreItems items → number_too_large (map faults.item_place items) ≡ None
    → read_numbered written tries next front items ≡ Ok (front ++ numbered_from written tries next items)
unfolding read_numbered
numbers_given written tries next front [] h e = ap Ok (sym (append-nil front))
numbers_given written tries next front (i ∷ items) h e =
    given_by written tries next front i.site i.name i.number items h.0 e
    (λ n xs none. numbers_given written tries n xs items h.2 none)

items_by : (items : List WrittenItem) (f : Option TagFault) → AreItems items
    → number_too_large (map faults.item_place items) ≡ f
    → (unless f (written_numbers items) >>= λ taken. read_numbered taken (length items) 0 [] items)
    ≡ unless f (numbered items)
items_by items None h e = numbers_given (written_numbers items) (length items) 0 [] items h e
items_by items (Some f) h e = refl

pub items_are : (items : List WrittenItem) → AreItems items
    → read_items items ≡ unless (number_too_large (map faults.item_place items)) (numbered items)
unfolding read_items
items_are items h =
    ap (λ (r : Result (List ℤ) TagFault). r >>= λ taken. read_numbered taken (length items) 0 [] items)
    (written_read [] items)
    ∙ items_by items (number_too_large (map faults.item_place items)) h refl
