-- What the steps of `encode` give.
use Rattle.std.specs.Prelude.{ℕ, suc, if◌then◌else◌, List, [], ◌∷◌, ◌++◌, map, Option, Some, None}
use Rattle.guard_model.specs.declared.tag.Tag.{Tag}
use Rattle.guard_model.specs.AbstractType.{AbstractType, AbstractPresence}
use Rattle.guard_model.specs.AbstractValue.{AbstractValue}
use Rattle.guard_der.specs.Der.{der, outermost, is_left_out, Part, part_unless, tag_before, joined, parts_joined, ascending, ◌>>=◌}
use Rattle.guard_der.specs.declared.encoding.parts.EncodedPart.{EncodedPart}

abbrev pub part_view : EncodedPart → Part
part_view s = record { tag = s.tag; octets = s.octets.items }

abbrev pub parts_view : List EncodedPart → List Part
parts_view ss = map part_view ss

-- what is sent of one component, nothing or one part
abbrev pub part_of : AbstractPresence → AbstractType → Option AbstractValue → Option (List Part)
part_of presence t None = Some []
part_of presence t (Some v) = part_unless (is_left_out presence v) (outermost t v) (der t v) (Some [])

-- how many parts with lesser tags lead these
abbrev pub place_among : Tag → List Part → ℕ
place_among t [] = 0
place_among t (q ∷ qs) = if tag_before q.tag t then suc (place_among t qs) else 0

-- these parts and those after them
abbrev pub with_parts : List Part → Option (List Part) → Option (List Part)
with_parts before others = others >>= λ ps. Some (before ++ ps)

-- the encodings one after the other
abbrev pub all_joined : Option (List (List ℕ)) → Option (List ℕ)
all_joined encodings = encodings >>= λ es. Some (joined es)

abbrev pub sequence_octets : Option (List Part) → Option (List ℕ)
sequence_octets parts = parts >>= λ ps. Some (parts_joined ps)

abbrev pub set_octets : Option (List Part) → Option (List ℕ)
set_octets parts = parts >>= λ ps. Some (parts_joined (ascending ps))
