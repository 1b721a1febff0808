-- Worked examples of a SET, computed by reading.
use Rattle.std.specs.Prelude.{◌≡◌, ℕ, pos, true, List, [], ◌∷◌, Result, Ok, Err, refl, codes}
use Rattle.guard_model.specs.declared.site.Step.{Step}
use Rattle.guard_model.specs.declared.site.Step.TheVariants.{Component}
use Rattle.guard_model.specs.AbstractType as type
use Rattle.guard_model.specs.AbstractType.{AbstractType, type_of, no_components, component, no_constraints}
use Rattle.guard_model.specs.AbstractValue as value
use Rattle.guard_model.specs.AbstractValue.{AbstractValue}
use Rattle.guard_der.specs.declared.breach.Code.{Code}
use Rattle.guard_der.specs.declared.breach.Code.TheVariants as code
use Rattle.guard_der.specs.Octets.{twos_complement}
use Rattle.guard_der.specs.Head.{number_from, high_number, tag_number, long_length, length_at, head_of}
use Rattle.guard_der.specs.Breach.{AbstractBreach}
use Rattle.guard_der.specs.Reading.{message_of, alone_at, due_at, element_at, contents_at, untagged_at, chosen_at, part_at, tags_at, framed, simple_at, sent_at, placed_at, set_element_at, completed, set_at}
use Rattle.guard_der.specs.rows.Rows.{universal, context, plain}

abbrev fault : Code → ℕ → List Step → Result AbstractValue AbstractBreach
fault c at path = Err (record { code = c; at = at; path = path })

-- a row that names this unfolds all that reading computes with
abbrev read : AbstractType → List ℕ → Result AbstractValue AbstractBreach
unfolding message_of alone_at due_at element_at contents_at untagged_at chosen_at part_at tags_at framed simple_at
    sent_at placed_at set_element_at completed set_at head_of tag_number high_number number_from length_at long_length
    twos_complement
read t octets = message_of t octets

-- SET {a [1] INTEGER, b [0] BOOLEAN, c [2] INTEGER DEFAULT 5}
abbrev three : AbstractType
three = plain (universal 17) (type.set
    (component (codes "a") (plain (context 1) (type.integer [])) type.mandatory
    (component (codes "b") (plain (context 0) type.boolean) type.mandatory
    (component (codes "c") (plain (context 2) (type.integer [])) (type.default (value.integer (pos 5)))
    no_components))))

in_order : message_of three (0x31 ∷ 0x06 ∷ 0x80 ∷ 0x01 ∷ 0xFF ∷ 0x81 ∷ 0x01 ∷ 0x05 ∷ [])
    ≡ Ok (value.fields
    (value.present (value.integer (pos 5))
    (value.present (value.boolean true) (value.present (value.integer (pos 5)) value.no_fields))))
unfolding read
in_order = refl

descending : message_of three (0x31 ∷ 0x06 ∷ 0x81 ∷ 0x01 ∷ 0x05 ∷ 0x80 ∷ 0x01 ∷ 0xFF ∷ [])
    ≡ fault code.SetOrder 5 (Component 1 ∷ [])
unfolding read
descending = refl

twice : message_of three (0x31 ∷ 0x06 ∷ 0x80 ∷ 0x01 ∷ 0xFF ∷ 0x80 ∷ 0x01 ∷ 0xFF ∷ [])
    ≡ fault code.SetOrder 5 (Component 1 ∷ [])
unfolding read
twice = refl

unknown : message_of three (0x31 ∷ 0x06 ∷ 0x80 ∷ 0x01 ∷ 0xFF ∷ 0x83 ∷ 0x01 ∷ 0xFF ∷ []) ≡ fault code.UnexpectedTag 5 []
unfolding read
unknown = refl

default_sent : message_of three (0x31 ∷ 0x09 ∷ 0x80 ∷ 0x01 ∷ 0xFF ∷ 0x81 ∷ 0x01 ∷ 0x07 ∷ 0x82 ∷ 0x01 ∷ 0x05 ∷ [])
    ≡ fault code.DefaultPresent 8 (Component 2 ∷ [])
unfolding read
default_sent = refl

without : message_of three (0x31 ∷ 0x03 ∷ 0x80 ∷ 0x01 ∷ 0xFF ∷ []) ≡ fault code.MissingComponent 5 (Component 0 ∷ [])
unfolding read
without = refl

-- SET {a [1] INTEGER, d CHOICE {x [3] INTEGER, y [5] NULL} OPTIONAL}
abbrev with_choice : AbstractType
with_choice = plain (universal 17) (type.set
    (component (codes "a") (plain (context 1) (type.integer [])) type.mandatory
    (component (codes "d") (type_of [] (type.choice
    (component (codes "x") (plain (context 3) (type.integer [])) type.mandatory
    (component (codes "y") (plain (context 5) type.null) type.mandatory no_components))) no_constraints) type.optional
    no_components)))

by_the_chosen_one : message_of with_choice (0x31 ∷ 0x05 ∷ 0x81 ∷ 0x01 ∷ 0x05 ∷ 0x85 ∷ 0x00 ∷ [])
    ≡ Ok (value.fields
    (value.present (value.integer (pos 5)) (value.present (value.chosen 1 value.null) value.no_fields)))
unfolding read
by_the_chosen_one = refl

chosen_twice : message_of with_choice (0x31 ∷ 0x08 ∷ 0x81 ∷ 0x01 ∷ 0x05 ∷ 0x83 ∷ 0x01 ∷ 0x06 ∷ 0x85 ∷ 0x00 ∷ [])
    ≡ fault code.UnexpectedTag 8 []
unfolding read
chosen_twice = refl
