-- The definitions, computed on examples.
use Rattle.std.proofs.Common.{◌≡◌, ℕ, zero, suc, Bool, true, false, List, [], ◌∷◌, Option, Some, None, refl}
use Rattle.std.specs.Prelude.{codes, pos, bytes_eq, if◌then◌else◌, replicate}
use Rattle.guard_model.specs.declared.site.Site.{Site}
use Rattle.guard_model.specs.declared.tag.Class.{Class}
use Rattle.guard_model.specs.declared.tag.Class.TheVariants as class
use Rattle.guard_model.specs.declared.tag.Tag.{Tag}
use Rattle.guard_model.specs.AbstractType as type
use Rattle.guard_model.specs.AbstractType.{AbstractType, AbstractKind, AbstractPresence, Constraints, type_of}
use Rattle.guard_syntax.specs.declared.tree.PlainType.TheVariants as plain_type
use Rattle.guard_syntax.specs.declared.tree.Collection.TheVariants.{Sequence, Set}
use Rattle.guard_syntax.specs.declared.tree.TagClass.{TagClass}
use Rattle.guard_syntax.specs.declared.tree.TagClass.TheVariants as word
use Rattle.guard_syntax.specs.declared.tree.TagDefault.{TagDefault}
use Rattle.guard_syntax.specs.declared.tree.TagDefault.TheVariants.{Explicit, Implicit, Automatic}
use Rattle.guard_syntax.specs.declared.tree.TagMode.{TagMode}
use Rattle.guard_syntax.specs.declared.tree.TagMode.TheVariants as mode
use Rattle.guard_syntax.specs.Trees.{WrittenNamed, WrittenType, WrittenBase, WrittenTag, WrittenComponents, WrittenItem, type_node, plain, numbers, named_bits, enumerated, structure, choice, of_type, named_type, component, components_from, no_components, alternative, no_alternatives, mandatory}
use Rattle.guard_tagging.specs.declared.fault.TagFault.TheVariants as fault
use Rattle.guard_tagging.specs.Types.{Surroundings, denoted}
use Rattle.guard_tagging.specs.Enumerations.{numbered}
use Rattle.guard_tagging.specs.Faults.{first_fault}

-- ---- writing trees and types; a site is the column alone

abbrev at : ℕ → Site
at n = record { text = 1; line = 1; column = n }

abbrev bare : WrittenBase → WrittenType
bare base = type_node (at 1) [] base []

abbrev tagged : List WrittenTag → WrittenBase → WrittenType
tagged ws base = type_node (at 1) ws base []

abbrev tag_at : ℕ → Option TagClass → List ℕ → Option TagMode → WrittenTag
tag_at n class digits mode = record { site = at n; class = class; number = digits; mode = mode }

-- [n] without a word
abbrev context_tag : List ℕ → List WrittenTag
context_tag digits = tag_at 1 None digits None ∷ []

abbrev integer_type : WrittenBase
integer_type = numbers []

abbrev kind_tag : Class → ℕ → Tag
kind_tag class n = record { class = class; number = n }

abbrev of : List Tag → AbstractKind → AbstractType
of tags kind = type_of tags kind type.no_constraints

abbrev integer_with : List Tag → AbstractType
integer_with tags = of tags (type.integer [])

abbrev universal : ℕ → Tag
universal n = kind_tag class.Universal n

abbrev context : ℕ → Tag
context n = kind_tag class.Context n

-- a module with this default, in which one name means something
abbrev module_with : TagDefault → List ℕ → AbstractType → Bool → Surroundings
module_with default name t automatic = record { tag_default = default; meaning = λ asked. if bytes_eq asked name then Some (record { ty = t; is_automatic = automatic }) else None }

abbrev alone : TagDefault → Surroundings
alone default = record { tag_default = default; meaning = λ asked. None }

-- ---- tags

-- T ::= [0] INTEGER under IMPLICIT TAGS
implicit_tag : denoted (alone Implicit) (tagged (context_tag (codes "0")) integer_type) ≡ integer_with (context 0 ∷ [])
implicit_tag = refl

explicit_tag : denoted (alone Explicit) (tagged (context_tag (codes "0")) integer_type)
    ≡ integer_with (context 0 ∷ universal 2 ∷ [])
explicit_tag = refl

-- used in a module under EXPLICIT TAGS it is that type too: what counts is the default where its tag is written
used_elsewhere : denoted (module_with Explicit (codes "T") (integer_with (context 0 ∷ [])) false)
    (bare (structure Sequence (component (at 3) (codes "t")
    (bare (named_type (at 1) (codes "T"))) mandatory no_components)))
    ≡ of (universal 16 ∷ []) (type.sequence
    (type.component (codes "t") (integer_with (context 0 ∷ [])) type.mandatory type.no_components))
used_elsewhere = refl

-- V ::= [1] T there
tag_on_used : denoted (module_with Explicit (codes "T") (integer_with (context 0 ∷ [])) false)
    (tagged (context_tag (codes "1")) (named_type (at 1) (codes "T"))) ≡ integer_with (context 1 ∷ context 0 ∷ [])
tag_on_used = refl

-- [1] CHOICE {a [0] INTEGER} under IMPLICIT TAGS: the tag is put round it
tag_on_choice : denoted (alone Implicit)
    (tagged (context_tag (codes "1")) (choice
    (alternative (at 5) (codes "a") (tagged (context_tag (codes "0")) integer_type) no_alternatives)))
    ≡ of (context 1 ∷ []) (type.choice (type.component (codes "a")
    (integer_with (context 0 ∷ [])) type.mandatory type.no_components))
tag_on_choice = refl

-- a tag on a CHOICE that has one replaces it
tag_on_tagged_choice : denoted (module_with Implicit (codes "C")
    (of (context 1 ∷ []) (type.choice type.no_components)) false)
    (tagged (context_tag (codes "2")) (named_type (at 1) (codes "C")))
    ≡ of (context 2 ∷ []) (type.choice type.no_components)
tag_on_tagged_choice = refl

-- [APPLICATION 40] IMPLICIT INTEGER, and [0] EXPLICIT INTEGER, under any default
application_tag : denoted (alone Explicit)
    (tagged (tag_at 1 (Some word.Application) (codes "40") (Some mode.Implicit) ∷ []) integer_type)
    ≡ integer_with (kind_tag class.Application 40 ∷ [])
application_tag = refl

word_explicit : denoted (alone Implicit) (tagged (tag_at 1 None (codes "0") (Some mode.Explicit) ∷ []) integer_type)
    ≡ integer_with (context 0 ∷ universal 2 ∷ [])
word_explicit = refl

-- ---- automatic tags

-- SEQUENCE {a INTEGER, b CHOICE {x NULL}}
automatic_tags : denoted (alone Automatic)
    (bare (structure Sequence (component (at 2) (codes "a") (bare integer_type) mandatory
    (component (at 3) (codes "b") (bare (choice
    (alternative (at 4) (codes "x") (bare (plain plain_type.Null)) no_alternatives))) mandatory no_components))))
    ≡ of (universal 16 ∷ []) (type.sequence (type.component (codes "a") (integer_with (context 0 ∷ [])) type.mandatory
    (type.component (codes "b") (of (context 1 ∷ [])
    (type.choice (type.component (codes "x")
    (of (context 0 ∷ []) type.null) type.mandatory type.no_components))) type.mandatory type.no_components)))
automatic_tags = refl

-- SEQUENCE {a [3] INTEGER, b BOOLEAN}: one component's type begins with a tag, which is implicit here
no_automatic_tags : denoted (alone Automatic)
    (bare (structure Sequence (component (at 2) (codes "a") (tagged (context_tag (codes "3")) integer_type) mandatory
    (component (at 3) (codes "b") (bare (plain plain_type.Boolean)) mandatory no_components))))
    ≡ of (universal 16 ∷ []) (type.sequence (type.component (codes "a") (integer_with (context 3 ∷ [])) type.mandatory
    (type.component (codes "b") (of (universal 1 ∷ []) type.boolean) type.mandatory type.no_components)))
no_automatic_tags = refl

-- SET {a [1] INTEGER, b [0] BOOLEAN} under IMPLICIT TAGS
set_in_order : denoted (alone Implicit)
    (bare (structure Set (component (at 2) (codes "a") (tagged (context_tag (codes "1")) integer_type) mandatory
    (component (at 3) (codes "b") (tagged (context_tag (codes "0"))
    (plain plain_type.Boolean)) mandatory no_components))))
    ≡ of (universal 17 ∷ []) (type.set (type.component (codes "a") (integer_with (context 1 ∷ [])) type.mandatory
    (type.component (codes "b") (of (context 0 ∷ []) type.boolean) type.mandatory type.no_components)))
set_in_order = refl

-- ---- COMPONENTS OF

-- A ::= SEQUENCE {x [0] INTEGER}
abbrev type_a : List Tag → AbstractType
type_a tags =
    of tags (type.sequence (type.component (codes "x")
    (integer_with (context 0 ∷ [])) type.mandatory type.no_components))

components_of_a : denoted (module_with Implicit (codes "A") (type_a (universal 16 ∷ [])) false)
    (bare (structure Sequence (components_from (at 2) (bare (named_type (at 1) (codes "A")))
    (component (at 3) (codes "y") (bare (plain plain_type.Boolean)) mandatory no_components))))
    ≡ of (universal 16 ∷ []) (type.sequence (type.component (codes "x") (integer_with (context 0 ∷ [])) type.mandatory
    (type.component (codes "y") (of (universal 1 ∷ []) type.boolean) type.mandatory type.no_components)))
components_of_a = refl

-- a name is its type with all that it has, and what COMPONENTS OF puts in keeps all that it has: constraints, defaults
-- and what is inside it
copied_whole : (t : AbstractType) → denoted (module_with Automatic (codes "T") t false) (bare
    (named_type (at 1) (codes "T"))) ≡ t
copied_whole t = refl

put_in_whole : (t : AbstractType) (p : AbstractPresence) (c : Constraints)
    → denoted (module_with Implicit (codes "A")
    (type_of (universal 16 ∷ []) (type.sequence (type.component (codes "x") t p type.no_components)) c) false)
    (bare (structure Sequence (components_from (at 2) (bare (named_type (at 1) (codes "A"))) no_components)))
    ≡ of (universal 16 ∷ []) (type.sequence (type.component (codes "x") t p type.no_components))
put_in_whole t p c = refl

abbrev takes : WrittenBase → WrittenType
takes base = bare (structure Sequence (components_from (at 7) (bare base) no_components))

lawful_components_of : first_fault (module_with Implicit (codes "A") (type_a (universal 16 ∷ [])) false) 0
    (takes (named_type (at 1) (codes "A"))) ≡ None
lawful_components_of = refl

g4 : first_fault (alone Implicit) 0 (takes integer_type) ≡ Some (fault.ComponentsOfKind (at 7))
g4 = refl

g4_set : first_fault (alone Implicit) 0 (takes (structure Set no_components)) ≡ Some (fault.ComponentsOfKind (at 7))
g4_set = refl

g5 : first_fault (module_with Automatic (codes "E") (type_a (universal 16 ∷ [])) true) 0
    (takes (named_type (at 1) (codes "E"))) ≡ Some (fault.ComponentsOfAutomatic (at 7))
g5 = refl

-- D ::= [1] A under IMPLICIT TAGS
g6 : first_fault (module_with Implicit (codes "D") (type_a (context 1 ∷ [])) false) 0
    (takes (named_type (at 1) (codes "D"))) ≡ Some (fault.ComponentsOfTagged (at 7))
g6 = refl

-- [UNIVERSAL 1] SEQUENCE {COMPONENTS OF NULL}: the list's own tag comes first
g1_before_g4 : first_fault (alone Implicit) 0
    (tagged (tag_at 4 (Some word.Universal) (codes "1") None ∷ [])
    (structure Sequence (components_from (at 7) (bare (plain plain_type.Null)) no_components)))
    ≡ Some (fault.UniversalTag (at 4))
g1_before_g4 = refl

-- SEQUENCE {COMPONENTS OF NULL, a [UNIVERSAL 1] NULL}: and so do the types of later components
part_before_g4 : first_fault (alone Implicit) 0
    (bare (structure Sequence (components_from (at 7) (bare (plain plain_type.Null))
    (component (at 8) (codes "a") (tagged (tag_at 9 (Some word.Universal) (codes "1") None ∷ [])
    (plain plain_type.Null)) mandatory no_components)))) ≡ Some (fault.UniversalTag (at 9))
part_before_g4 = refl

-- SEQUENCE {COMPONENTS OF NULL, b SEQUENCE {COMPONENTS OF NULL}}
inner_g4_first : first_fault (alone Implicit) 0
    (bare (structure Sequence (components_from (at 7) (bare (plain plain_type.Null))
    (component (at 8) (codes "b") (bare (structure Sequence
    (components_from (at 9) (bare (plain plain_type.Null)) no_components))) mandatory no_components))))
    ≡ Some (fault.ComponentsOfKind (at 9))
inner_g4_first = refl

-- SEQUENCE {COMPONENTS OF D, COMPONENTS OF NULL}, where D is tagged: the number of the fault counts before the entry
g4_before_g6 : first_fault (module_with Implicit (codes "D") (type_a (context 1 ∷ [])) false) 0
    (bare (structure Sequence (components_from (at 7) (bare (named_type (at 1) (codes "D")))
    (components_from (at 9) (bare (plain plain_type.Null)) no_components)))) ≡ Some (fault.ComponentsOfKind (at 9))
g4_before_g6 = refl

-- SEQUENCE {a NULL, a NULL, COMPONENTS OF NULL}
g4_before_g7 : first_fault (alone Implicit) 0
    (bare (structure Sequence (component (at 5) (codes "a") (bare (plain plain_type.Null)) mandatory
    (component (at 6) (codes "a") (bare (plain plain_type.Null)) mandatory
    (components_from (at 7) (bare (plain plain_type.Null)) no_components))))) ≡ Some (fault.ComponentsOfKind (at 7))
g4_before_g7 = refl

-- CHOICE {a NULL, b NULL} is put into no SEQUENCE, so that its alternatives count for nothing after it
counts_for_nothing : first_fault (module_with Implicit (codes "C")
    (of [] (type.choice (type.component (codes "a") (of (universal 5 ∷ []) type.null) type.mandatory
    (type.component (codes "b") (of (universal 5 ∷ []) type.null) type.mandatory type.no_components)))) false) 99998
    (bare (structure Sequence (components_from (at 7) (bare (named_type (at 1) (codes "C")))
    (component (at 8) (codes "c") (bare (plain plain_type.Null)) mandatory no_components))))
    ≡ Some (fault.ComponentsOfKind (at 7))
counts_for_nothing = refl

-- ---- other faults

g1 : first_fault (alone Explicit) 0 (tagged (tag_at 4 (Some word.Universal) (codes "2") None ∷ [])
    (plain plain_type.Null)) ≡ Some (fault.UniversalTag (at 4))
g1 = refl

-- [268435456] [UNIVERSAL 1] NULL: of several tags of one type the order of the faults counts
g1_first : first_fault (alone Explicit) 0
    (tagged (tag_at 4 None (codes "268435456") None ∷ tag_at 5 (Some word.Universal) (codes "1") None ∷ [])
    (plain plain_type.Null)) ≡ Some (fault.UniversalTag (at 5))
g1_first = refl

g2 : first_fault (alone Implicit) 0 (tagged (tag_at 4 None (codes "0") (Some mode.Implicit) ∷ [])
    (choice (alternative (at 5) (codes "a") (bare (plain plain_type.Null)) no_alternatives)))
    ≡ Some (fault.ImplicitChoice (at 4))
g2 = refl

-- a tag between makes it lawful
not_g2 : first_fault (alone Implicit) 0
    (tagged (tag_at 4 None (codes "0") (Some mode.Implicit) ∷ tag_at 5 None (codes "1") None ∷ [])
    (choice (alternative (at 6) (codes "a") (bare (plain plain_type.Null)) no_alternatives))) ≡ None
not_g2 = refl

g3 : first_fault (alone Explicit) 0 (tagged (context_tag (codes "268435456")) (plain plain_type.Null))
    ≡ Some (fault.TagTooLarge (at 1))
g3 = refl

not_g3 : first_fault (alone Explicit) 0 (tagged (context_tag (codes "268435455")) (plain plain_type.Null)) ≡ None
not_g3 = refl

g7 : first_fault (alone Explicit) 0 (bare
    (structure Sequence (component (at 2) (codes "a") (bare (plain plain_type.Null)) mandatory
    (component (at 9) (codes "a") (bare (plain plain_type.Null)) mandatory no_components))))
    ≡ Some (fault.DuplicateName (at 9))
g7 = refl

abbrev numbered_item : ℕ → List ℕ → List ℕ → WrittenItem
numbered_item n name digits = record { site = at n; name = name; number = Some (record { site = at n; minus = false; digits = digits }) }

abbrev item : ℕ → List ℕ → WrittenItem
item n name = record { site = at n; name = name; number = None }

g8 : first_fault (alone Explicit) 0 (bare
    (enumerated (numbered_item 3 (codes "a") (codes "1") ∷ numbered_item 8 (codes "b") (codes "1") ∷ [])))
    ≡ Some (fault.DuplicateNumber (at 8))
g8 = refl

g12 : first_fault (alone Explicit) 0 (bare
    (numbers (record { site = at 3; name = codes "a"; number = record { site = at 4; minus = false; digits = codes "170141183460469231731687303715884105728" } } ∷ []))) ≡ Some (fault.NumberTooLarge (at 3))
g12 = refl

-- the least number there is
not_g12 : first_fault (alone Explicit) 0
    (bare (numbers (record { site = at 3; name = codes "a"; number = record { site = at 4; minus = true; digits = codes "170141183460469231731687303715884105728" } } ∷ []))) ≡ None
not_g12 = refl

abbrev named_bit : ℕ → List ℕ → List ℕ → WrittenNamed
named_bit n name digits = record { site = at n; name = name; number = record { site = at n; minus = false; digits = digits } }

-- BIT STRING {read(0), write(2)}
named_bits_of : denoted (alone Explicit)
    (bare (named_bits (named_bit 3 (codes "read") (codes "0") ∷ named_bit 4 (codes "write") (codes "2") ∷ [])))
    ≡ of (universal 3 ∷ []) (type.bit_string
    (record { name = codes "read"; number = pos 0 } ∷ record { name = codes "write"; number = pos 2 } ∷ []))
named_bits_of = refl

g8_of_bits : first_fault (alone Explicit) 0
    (bare (named_bits (named_bit 3 (codes "a") (codes "1") ∷ named_bit 8 (codes "b") (codes "1") ∷ [])))
    ≡ Some (fault.DuplicateNumber (at 8))
g8_of_bits = refl

g12_of_bits : first_fault (alone Explicit) 0
    (bare (named_bits (named_bit 3 (codes "a") (codes "65535") ∷ named_bit 8 (codes "b") (codes "65536") ∷ [])))
    ≡ Some (fault.NumberTooLarge (at 8))
g12_of_bits = refl

not_g12_of_bits : first_fault (alone Explicit) 0 (bare (named_bits (named_bit 3 (codes "a") (codes "65535") ∷ [])))
    ≡ None
not_g12_of_bits = refl

-- ---- limits

-- INTEGER in so many SEQUENCE OF
abbrev nested : ℕ → WrittenType
nested zero = bare integer_type
nested (suc n) = bare (of_type Sequence None (nested n))

not_g10 : first_fault (alone Explicit) 0 (nested 31) ≡ None
not_g10 = refl

g10 : first_fault (alone Explicit) 0 (nested 32) ≡ Some (fault.TooDeep (at 1))
g10 = refl

-- SEQUENCE {a CHOICE {c ..}} under AUTOMATIC TAGS, around so many SEQUENCE OF: the automatic tag of the CHOICE is one
-- of its levels
abbrev around_choice : ℕ → WrittenType
around_choice n =
    bare (structure Sequence (component (at 2) (codes "a")
    (type_node (at 3) [] (choice (alternative (at 4) (codes "c")
    (nested n) no_alternatives)) []) mandatory no_components))

g10_of_choice : first_fault (alone Automatic) 0 (around_choice 30) ≡ Some (fault.TooDeep (at 3))
g10_of_choice = refl

g10_of_list : first_fault (alone Automatic) 0 (around_choice 29) ≡ Some (fault.TooDeep (at 1))
g10_of_list = refl

not_g10_of_list : first_fault (alone Automatic) 0 (around_choice 28) ≡ None
not_g10_of_list = refl

-- without automatic tags only the whole is too deep
g10_untagged : first_fault (alone Implicit) 0 (around_choice 30) ≡ Some (fault.TooDeep (at 1))
g10_untagged = refl

-- a name of so many letters for each component
abbrev row_of : ℕ → WrittenComponents
row_of zero = no_components
row_of (suc n) = component (at 2) (replicate (suc n) 97) (bare (plain plain_type.Boolean)) mandatory (row_of n)

not_g9 : first_fault (alone Automatic) 0 (bare (structure Sequence (row_of 64))) ≡ None
not_g9 = refl

g9 : first_fault (alone Automatic) 0 (bare (structure Sequence (row_of 65))) ≡ Some (fault.TooManyComponents (at 1))
g9 = refl

not_g11 : first_fault (alone Explicit) 99999 (bare (plain plain_type.Boolean)) ≡ None
not_g11 = refl

g11 : first_fault (alone Explicit) 100000 (bare (plain plain_type.Boolean)) ≡ Some (fault.SchemaTooLarge (at 1))
g11 = refl

-- ---- numbers of items

-- ENUMERATED {a, b(0), c}
numbers_of_items : numbered (item 1 (codes "a") ∷ numbered_item 2 (codes "b") (codes "0") ∷ item 3 (codes "c") ∷ [])
    ≡ record { name = codes "a"; number = pos 1 } ∷ record { name = codes "b"; number = pos 0 }
    ∷ record { name = codes "c"; number = pos 2 } ∷ []
numbers_of_items = refl
