-- What a node of the code says, without where it lies in memory.
use Rattle.std.specs.Prelude.{ℕ, ℤ, pos, ◌+◌, ◌*◌, Bool, true, not, List, [], ◌∷◌, map, nat_lt, Option, Some, None, if◌then◌else◌}
use Rattle.guard_integers.specs.Integers.{holds}
use Rattle.guard_model.specs.declared.tag.Tag.{Tag}
use Rattle.guard_model.specs.Tags.{class_rank}
use Rattle.guard_model.specs.AbstractType as type
use Rattle.guard_model.specs.AbstractType.{AbstractKind, NamedNumber}
use Rattle.guard_der.specs.Element.{form_bit}
use Rattle.guard_tables.specs.declared.node.Condition.{Condition}
use Rattle.guard_tables.specs.declared.node.Form.{Form}
use Rattle.guard_tables.specs.declared.node.Form.TheFolds.{fold-Form}
use Rattle.guard_tables.specs.declared.node.Form.TheOpen.{Form-F}
use Rattle.guard_tables.specs.declared.node.Need.{Need}
use Rattle.guard_tables.specs.declared.node.Need.TheVariants as need
use Rattle.guard_tables.specs.declared.node.Implication.{Implication}
use Rattle.guard_tables.specs.declared.node.SimpleKind.{SimpleKind}
use Rattle.guard_tables.specs.declared.node.SimpleKind.TheVariants as kind
use Rattle.guard_tables.specs.declared.node.Test.{Test}
use Rattle.guard_tables.specs.declared.node.Test.TheVariants as test
use Rattle.guard_tables.specs.declared.slots.Slots.{Slots}
use Rattle.guard_tables.specs.Slots.{none}
use Rattle.guard_eval.specs.Elements.{is_in_some}
use Rattle.guard_tables.specs.Formulas as formulas
use Rattle.guard_tables.specs.Plan.{AbstractTest, numbers, sizes, stored, spelled, AbstractCondition}

-- names don't count
abbrev pub unnamed : ℤ → NamedNumber
unnamed z = record { name = []; number = z }

-- items are those of an ENUMERATED
abbrev pub kind_view : SimpleKind → List ℤ → AbstractKind
kind_view kind.Boolean items = type.boolean
kind_view kind.Integer items = type.integer []
kind_view kind.Enumerated items = type.enumerated (map unnamed items)
kind_view kind.BitString items = type.bit_string []
kind_view kind.NamedBits items = type.bit_string (unnamed (pos 0) ∷ [])
kind_view kind.OctetString items = type.octet_string
kind_view kind.Null items = type.null
kind_view kind.ObjectIdentifier items = type.object_identifier
kind_view (kind.Characters k) items = type.characters k

abbrev pub test_view : Test → AbstractTest
test_view (test.Numbers set) = numbers (holds set)
test_view (test.Sizes set) = sizes (λ n. holds set (pos n))
test_view (test.Stored octets) = stored octets.items
test_view (test.Spelled alphabet) = spelled (is_in_some alphabet)

abbrev pub condition_view : Condition → AbstractCondition
condition_view c = record { slots = c.slots; test = test_view c.test }

abbrev pub form_step : Form-F formulas.Form → formulas.Form
form_step Form-F.Never = formulas.never
form_step Form-F.Always = formulas.always
form_step (Form-F.Slot n) = formulas.slot n
form_step (Form-F.Both a b) = formulas.both a.value b.value
form_step (Form-F.Either a b) = formulas.either a.value b.value
form_step (Form-F.Unless a) = formulas.unless a.value

abbrev pub form_view : Form → formulas.Form
form_view = fold-Form formulas.Form form_step

abbrev pub implication_view : Implication → formulas.Implication
implication_view r = record { slots = r.slots; where_failed = form_view r.where_failed }

-- ---- beside other components

abbrev pub absence_of : Need → Slots → Option Slots
absence_of need.Mandatory slots = None
absence_of need.Free slots = Some none
absence_of need.Costs slots = Some slots

-- ---- identifier octets

-- bits 8 and 7 the class, bit 6 the form, and a number below 31 (X.690 8.1.2)
abbrev pub octet_of : Tag → Bool → ℕ
octet_of t constructed = 64 * class_rank t.class + form_bit constructed + t.number

-- a wrapper is constructed (8.14.2)
abbrev pub outer_form : List Tag → Bool → Bool
outer_form [] constructed = constructed
outer_form (u ∷ us) constructed = true

abbrev pub identifier_of : List Tag → Bool → ℕ
identifier_of [] constructed = 256
identifier_of (t ∷ ts) constructed = if nat_lt t.number 31 then octet_of t (outer_form ts constructed) else 256

abbrev pub other_of : List Tag → Bool → ℕ
other_of [] constructed = 256
other_of (t ∷ ts) constructed = if nat_lt t.number 31 then octet_of t (not (outer_form ts constructed)) else 256
