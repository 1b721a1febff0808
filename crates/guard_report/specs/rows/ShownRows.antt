-- Worked examples of messages as they are shown. Encodings and offsets were written by hand by X.690.
use Rattle.std.specs.Prelude.{◌≡◌, pos, true, [], ◌∷◌, codes, refl}
use Rattle.std.specs.Fmt.{digits}
use Rattle.guard_model.specs.declared.site.Step.TheVariants.{Component}
use Rattle.guard_model.specs.AbstractType as type
use Rattle.guard_model.specs.AbstractType.{AbstractType, no_components, component}
use Rattle.guard_model.specs.AbstractValue.{AbstractValue, boolean, integer, fields, no_fields, present}
use Rattle.guard_eval.specs.rows.Rows.{plain}
use Rattle.guard_der.specs.declared.breach.Code.TheVariants.{BooleanContents, Truncated}
use Rattle.guard_der.specs.Head.{head_of, tag_number, length_at}
use Rattle.guard_report.specs.Shown.{value_shown, breach_shown}
use Rattle.guard_report.specs.rows.Rows.{order}
use Rattle.guard_report.specs.rows.ValueRows.{bought}

-- 300A 02010B 0101FF 3102 3000
nested : value_shown order (48 ∷ 10 ∷ 2 ∷ 1 ∷ 11 ∷ 1 ∷ 1 ∷ 255 ∷ 49 ∷ 2 ∷ 48 ∷ 0 ∷ []) bought
    ≡ codes "{ -- 0\n  qty 11, -- 2\n  urgent TRUE, -- 5\n  lines { -- 8\n    all: {} -- 10\n  }\n}"
unfolding digits head_of tag_number length_at
nested = refl

-- SET { left INTEGER, right BOOLEAN, spare BOOLEAN DEFAULT TRUE }, the last with the tag of NULL
abbrev pub both : AbstractType
both =
    plain 17 (type.set
    (component (codes "left") (plain 2 (type.integer [])) type.mandatory
    (component (codes "right") (plain 1 type.boolean) type.mandatory
    (component (codes "spare") (plain 5 type.boolean) (type.default (boolean true))
    no_components))))

abbrev pub sides : AbstractValue
sides = fields (present (integer (pos 7)) (present (boolean true) (present (boolean true) no_fields)))

-- 3106 0101FF 020107: in the order of tags, and without the default
in_a_set : value_shown both (49 ∷ 6 ∷ 1 ∷ 1 ∷ 255 ∷ 2 ∷ 1 ∷ 7 ∷ []) sides
    ≡ codes "{ -- 0\n  left 7, -- 5\n  right TRUE, -- 2\n  spare TRUE -- default\n}"
unfolding digits head_of tag_number length_at
in_a_set = refl

-- 300A 02010B 010101 ..: TRUE is FF
in_the_contents : breach_shown order (48 ∷ 10 ∷ 2 ∷ 1 ∷ 11 ∷ 1 ∷ 1 ∷ 1 ∷ 49 ∷ 2 ∷ 48 ∷ 0 ∷ [])
    (record { code = BooleanContents; at = 5; path = Component 1 ∷ [] })
    ≡ codes "'300A02010B'H\n-- BooleanContents at 5 $.urgent"
unfolding digits
in_the_contents = refl

at_once : breach_shown order [] (record { code = Truncated; at = 0; path = [] }) ≡ codes "''H\n-- Truncated at 0 $"
unfolding digits
at_once = refl
